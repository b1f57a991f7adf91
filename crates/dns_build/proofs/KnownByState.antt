-- A builder is determined by the state that it represents.
use Rattle.std.proofs.Common.{◌≡◌, ◌∙◌, sym, refl, subst, List}
use Rattle.dns_item.specs.Items.{RecordItem}
use Rattle.dns_build.specs.KnownByState.{BuildersAreKnown, PushesLeaveNothing, RewindsLeaveNothing}
use Rattle.dns_build.specs.BuilderStates.{Represents}
use Rattle.dns_build.specs.State.{Stage, InBuilder, InQuestion, InAnswer, InAuthority, InAdditional, State, with_questions, with_records, rewound}

-- Builders at the same stage that represent the same state are equal as contracts see them.
pub builders_are_known : BuildersAreKnown
builders_are_known stage rule s a b h k =
    let written = h.written ∙ sym k.written in
    let limit = h.limit ∙ sym k.limit in
    let starts = h.starts ∙ sym k.starts in
    λ i. record { written = written i; limit = limit i; starts = starts i }

-- a rewind removes records that were pushed
records_rewound : (stage : Stage) (xs : List RecordItem) (s : State) → rewound stage (with_records stage xs s) ≡ rewound stage s
records_rewound InBuilder xs s = refl
records_rewound InQuestion xs s = refl
records_rewound InAnswer xs s = refl
records_rewound InAuthority xs s = refl
records_rewound InAdditional xs s = refl

-- items that a rewind removes leave no trace
leave_nothing : {X : Type 0} (stage : Stage) (with_items : List X → State → State) → ((xs : List X) (s : State) → rewound stage (with_items xs s) ≡ rewound stage s)
    → PushesLeaveNothing stage with_items
leave_nothing stage with_items out rule s xs empty full new emptied pushed moves =
    builders_are_known stage rule (rewound stage s) new empty (subst (λ (t : State). Represents stage rule t new) (out xs s) (moves (with_items xs s) pushed)) emptied

-- A builder whose section is rewound equals one to which its items were never pushed.
pub rewinds_leave_nothing : RewindsLeaveNothing
rewinds_leave_nothing = record {
  questions = leave_nothing InQuestion with_questions (λ xs s. refl);
  records = λ stage. leave_nothing stage (with_records stage) (records_rewound stage);
}
