-- Records appended to the section of a state.
use Rattle.std.proofs.Common.{◌≡◌, sym, refl, append_assoc, List, [], ◌∷◌}
use Rattle.std.proofs.lemmas.List.{append-nil}
use Rattle.dns_item.specs.Items.{RecordItem}
use Rattle.dns_build.specs.State.{Stage, InBuilder, InQuestion, InAnswer, InAuthority, InAdditional, State, with_record, with_records}

-- Appending no records changes nothing.
pub no_records : (stage : Stage) (s : State) → s ≡ with_records stage [] s
no_records InBuilder s = refl
no_records InQuestion s = refl
no_records InAnswer s = λ i. record s { answers = sym (append-nil s.answers) i }
no_records InAuthority s = λ i. record s { authorities = sym (append-nil s.authorities) i }
no_records InAdditional s = λ i. record s { additionals = sym (append-nil s.additionals) i }

-- Appending one record and then others is appending all of them.
pub one_more : (stage : Stage) (x : RecordItem) (xs : List RecordItem) (s : State) → with_records stage xs (with_record stage x s) ≡ with_records stage (x ∷ xs) s
one_more InBuilder x xs s = refl
one_more InQuestion x xs s = refl
one_more InAnswer x xs s = λ i. record s { answers = append_assoc s.answers (x ∷ []) xs i }
one_more InAuthority x xs s = λ i. record s { authorities = append_assoc s.authorities (x ∷ []) xs i }
one_more InAdditional x xs s = λ i. record s { additionals = append_assoc s.additionals (x ∷ []) xs i }
