-- The invariant of a compressor, from those of its target and its index.
use Rattle.std.proofs.Common.{◌≡◌, ℕ, ◌+◌, ◌≤◌, Bool, true, Option, Some, None, Result, Ok, Err, List, [], ◌++◌, length, length-append, take, ap, sym, ◌∙◌, refl, subst, arith, nat_lt, ◌<◌, false}
use Rattle.std.specs.FinMap.{len, from_entries}
use Rattle.dns_octets.specs.declared.error.AppendError.{AppendError}
use Rattle.dns_octets.specs.declared.error.AppendError.TheVariants.{ShortBuf, OutOfMemory}
use Rattle.dns_name.specs.Names.{Labels, IsName, name_size, max_size, uncompressed}
use Rattle.dns_wire.specs.Encoders.{suffix_cmp, CompressionTable, TableEntry, IsClear, Plain, Rule, Static, Tree, encode_octets, encode_name, Suffix}
use Rattle.dns_wire.specs.Choice.{first_suffixes, IsFound, IsThere, Enters, planned_octets}
use Rattle.dns_wire.specs.Targets.{IsTableOf, Written, append, cut_to, overwrite, Fits, Exceeds, AppendReturns, Appends, IsTarget}
use Rattle.dns_wire.proofs.theory.EncoderLaws.{same_written, encodes_octets, encodes_name}
use Rattle.dns_wire.proofs.theory.EncodedNames.{ends_within_content}
use Rattle.dns_wire.proofs.theory.CompressedNames.{is_table_cut, is_table_over}
use Rattle.dns_wire.proofs.theory.CompressionTables.{nothing_is_kept}
use Rattle.dns_target.specs.Indexes.{IsReachable, IsEncoded, AreTableEntries, IsToAdd, Plans}
use Rattle.dns_target.specs.TableEntries.{with_names, named, table_in, AreNew, last_end, AreOrdered, cut_table_entries, with_suffixes, with_table_entries, HasTableEntries}
use Rattle.dns_target.proofs.EntryLemmas.{all_get, named_again, named-table_entries, table_entries-named, last_within, cut-table, cut-new, cut-ordered}
use Rattle.dns_target.proofs.EntryLemmas.{table_entries-with_names, entries-with_names, with_names-new, with_suffixes-ordered, len-table}
use Rattle.dns_target.proofs.Choosing.{planned_encoded}
use Rattle.std.specs.Prelude.{◌||◌}
use Rattle.std.proofs.lemmas.Grind.{common_steps}
use Rattle.dns_name.proofs.theory.LabelsLemmas.{length-uncompressed}
use Rattle.std.proofs.lemmas.List.{length-take-le}
use Rattle.dns_target.proofs.Starts.{size-take-le}

-- the invariant, from the names of the entries
by_names : (rule : Rule) (v : Written) (us : List TableEntry) (ps : List (Labels × TableEntry)) → rule ≡ Plain → named v.octets us ≡ ps → AreNew ps → AreOrdered us
    → IsTableOf v.octets (from_entries {R = suffix_cmp} ps) → HasTableEntries rule v us
by_names rule v us ps p e new ordered r = record {
  plain = p;
  new = subst (λ (qs : List (Labels × TableEntry)). AreNew qs) (sym e) new;
  ordered = ordered;
  target = subst (λ (qs : List (Labels × TableEntry)). IsTableOf v.octets (from_entries {R = suffix_cmp} qs)) (sym e) r;
}

-- in octets that encode the suffixes of the table, the names of all entries are the same
same_names : (rule : Rule) (w : Written) (xs : List TableEntry) (c : List ℕ) → HasTableEntries rule w xs → IsTableOf c (table_in w.octets xs) → named c xs ≡ named w.octets xs
same_names rule w xs c h r = named_again w.octets c (table_in w.octets xs) xs r (all_get (named w.octets xs) h.new)

-- so the invariant stays
same_state : (rule : Rule) (w v : Written) (xs : List TableEntry) → HasTableEntries rule w xs → IsTableOf v.octets (table_in w.octets xs) → HasTableEntries rule v xs
same_state rule w v xs h r = by_names rule v xs (named w.octets xs) h.plain (same_names rule w xs v.octets h r) h.new h.ordered r

-- and so does the table
same_entries : (rule : Rule) (w v : Written) (xs : List TableEntry) → HasTableEntries rule w xs → IsTableOf v.octets (table_in w.octets xs) → table_in v.octets xs ≡ table_in w.octets xs
same_entries rule w v xs h r = ap (λ (ps : List (Labels × TableEntry)). from_entries {R = suffix_cmp} ps) (same_names rule w xs v.octets h r)

-- with no entries, the invariant holds of every target that doesn't compress
pub entries_new : (rule : Rule) (w : Written) (xs : List TableEntry) → rule ≡ Plain → xs ≡ [] → HasTableEntries rule w xs
entries_new rule w xs p e = rw e (record { plain = p; new = tt; ordered = tt; target = nothing_is_kept w.octets })

octets_kept : (rule : Rule) (w v : Written) (xs : List TableEntry) (ys : List ℕ) → HasTableEntries rule w xs → v ≡ append (encode_octets ys) w → IsTableOf v.octets (table_in w.octets xs)
octets_kept rule w v xs ys h e =
    subst (λ (b : List ℕ). IsTableOf b (table_in w.octets xs)) (ap (λ (x : Written). x.octets) (sym e)) ((encodes_octets ys).keeps (with_table_entries w xs) h.target)

-- the names stay if octets are appended
pub grown_names : (rule : Rule) (w v : Written) (xs : List TableEntry) (ys : List ℕ) → HasTableEntries rule w xs → v ≡ append (encode_octets ys) w → named v.octets xs ≡ named w.octets xs
grown_names rule w v xs ys h e = same_names rule w xs v.octets h (octets_kept rule w v xs ys h e)

-- the same for an append with any result
pub octets_names : (rule : Rule) (capacity : Option ℕ) (grows : Bool) (w v : Written) (xs : List TableEntry) (ys : List ℕ) (r : Result (Unit {0}) AppendError)
    → HasTableEntries rule w xs → Appends capacity grows (encode_octets ys) w v r → named v.octets xs ≡ named w.octets xs
octets_names rule capacity grows w v xs ys (Ok x) h a = grown_names rule w v xs ys h a.ok
octets_names rule capacity grows w v xs ys (Err e) h a = ap (λ (t : Written). named t.octets xs) a.err

-- an append of octets keeps the invariant, whatever its result
pub entries_appended : (rule : Rule) (capacity : Option ℕ) (grows : Bool) (w v : Written) (xs : List TableEntry) (ys : List ℕ) (r : Result (Unit {0}) AppendError)
    → HasTableEntries rule w xs → Appends capacity grows (encode_octets ys) w v r → HasTableEntries rule v xs
entries_appended rule capacity grows w v xs ys (Ok x) h a = same_state rule w v xs h (octets_kept rule w v xs ys h a.ok)
entries_appended rule capacity grows w v xs ys (Err e) h a = rw a.err h

-- octets are appended, and the table stays
pub octets_appended : (rule : Rule) (capacity : Option ℕ) (grows all_grow : Bool) (w v now : Written) (xs : List TableEntry) (ys : List ℕ) (r : Result (Unit {0}) AppendError)
    → HasTableEntries rule w xs → (grows ≡ true → all_grow ≡ true) → with_table_entries w xs ≡ now → Appends capacity grows (encode_octets ys) w v r
    → Appends capacity all_grow (encode_octets ys) now (with_table_entries v xs) r
octets_appended rule capacity grows all_grow w v now xs ys (Ok x) h more s a =
    subst (λ (t : Written). Appends capacity all_grow (encode_octets ys) t (with_table_entries v xs) {X = Unit {0}} (Ok x)) s (record {
      ok = same_written _ _ (ap (λ (t : Written). t.octets) a.ok) (same_entries rule w v xs h (octets_kept rule w v xs ys h a.ok));
      err = tt;
      outcome = a.outcome;
    })
octets_appended rule capacity grows all_grow w v now xs ys (Err e) h more s a =
    subst (λ (t : Written). Appends capacity all_grow (encode_octets ys) t (with_table_entries v xs) {X = Unit {0}} (Err e)) s (record {
      ok = tt;
      err = ap (λ (t : Written). with_table_entries t xs) a.err;
      outcome = result_by e a.outcome;
    })
  where
    result_by : (e : AppendError) → AppendReturns {X = Unit {0}} capacity grows (length (append (encode_octets ys) w).octets) (Err e)
        → AppendReturns {X = Unit {0}} capacity all_grow (length (append (encode_octets ys) (with_table_entries w xs)).octets) (Err e)
    result_by ShortBuf k = k
    result_by OutOfMemory k = (k.0, more k.1)

over_kept : (rule : Rule) (w v : Written) (xs : List TableEntry) (a : ℕ) (ys : List ℕ) (now : Written) → HasTableEntries rule w xs → v ≡ overwrite a ys w → with_table_entries w xs ≡ now
    → IsClear now.table a (length ys) → IsTableOf v.octets (table_in w.octets xs)
over_kept rule w v xs a ys now h e s clear =
    let free : IsClear (table_in w.octets xs) a (length ys) = subst (λ (x : Written). IsClear x.table a (length ys)) (sym s) clear in
    subst (λ (b : List ℕ). IsTableOf b (table_in w.octets xs)) (ap (λ (x : Written). x.octets) (sym e)) (is_table_over a ys free h.target)

-- overwriting octets keeps the invariant
pub entries_over : (rule : Rule) (w v : Written) (xs : List TableEntry) (a : ℕ) (ys : List ℕ) (now : Written) → HasTableEntries rule w xs → v ≡ overwrite a ys w → with_table_entries w xs ≡ now
    → IsClear now.table a (length ys) → HasTableEntries rule v xs
entries_over rule w v xs a ys now h e s clear = same_state rule w v xs h (over_kept rule w v xs a ys now h e s clear)

-- and the names
pub over_names : (rule : Rule) (w v : Written) (xs : List TableEntry) (a : ℕ) (ys : List ℕ) (now : Written) → HasTableEntries rule w xs → v ≡ overwrite a ys w → with_table_entries w xs ≡ now
    → IsClear now.table a (length ys) → named v.octets xs ≡ named w.octets xs
over_names rule w v xs a ys now h e s clear = same_names rule w xs v.octets h (over_kept rule w v xs a ys now h e s clear)

-- and the table
pub over_entries : (rule : Rule) (w v : Written) (xs : List TableEntry) (a : ℕ) (ys : List ℕ) (now : Written) → HasTableEntries rule w xs → v ≡ overwrite a ys w → with_table_entries w xs ≡ now
    → IsClear now.table a (length ys) → with_table_entries v xs ≡ overwrite a ys now
over_entries rule w v xs a ys now h e s clear =
    same_written (with_table_entries v xs) (overwrite a ys (with_table_entries w xs)) (ap (λ (x : Written). x.octets) e) (same_entries rule w v xs h (over_kept rule w v xs a ys now h e s clear))
    ∙ ap (overwrite a ys) s

-- the names that a cut leaves
pub cut_names : (rule : Rule) (w v : Written) (xs : List TableEntry) (n : ℕ) → HasTableEntries rule w xs → v ≡ cut_to n w
    → IsTableOf v.octets (table_in w.octets (cut_table_entries n xs)) × (named v.octets (cut_table_entries n xs) ≡ named w.octets (cut_table_entries n xs))
cut_names rule w v xs n h e =
    let r : IsTableOf (take n w.octets) (table_in w.octets (cut_table_entries n xs)) =
    subst (λ (m : CompressionTable). IsTableOf (take n w.octets) m) (sym (cut-table w.octets xs n h.new h.ordered)) (is_table_cut n h.target) in
    let s : IsTableOf v.octets (table_in w.octets (cut_table_entries n xs)) =
    subst (λ (b : List ℕ). IsTableOf b (table_in w.octets (cut_table_entries n xs))) (ap (λ (x : Written). x.octets) (sym e)) r in
    (s, named_again w.octets v.octets (table_in w.octets (cut_table_entries n xs)) (cut_table_entries n xs) s (all_get (named w.octets (cut_table_entries n xs)) (cut-new w.octets xs n h.new)))

-- cutting the target and the entries cuts octets and table
pub entries_cut : (rule : Rule) (w v now : Written) (xs us : List TableEntry) (n : ℕ) → HasTableEntries rule w xs → v ≡ cut_to n w → us ≡ cut_table_entries n xs → with_table_entries w xs ≡ now
    → with_table_entries v us ≡ cut_to n now
entries_cut rule w v now xs us n h e f s =
    ap (with_table_entries v) f
    ∙ same_written (with_table_entries v (cut_table_entries n xs)) (cut_to n (with_table_entries w xs)) (ap (λ (x : Written). x.octets) e)
    (ap (λ (ps : List (Labels × TableEntry)). from_entries {R = suffix_cmp} ps) (cut_names rule w v xs n h e).1 ∙ cut-table w.octets xs n h.new h.ordered)
    ∙ ap (cut_to n) s

-- and keeps the invariant
pub cut_has_entries : (rule : Rule) (w v : Written) (xs us : List TableEntry) (n : ℕ) → HasTableEntries rule w xs → v ≡ cut_to n w → us ≡ cut_table_entries n xs → HasTableEntries rule v us
cut_has_entries rule w v xs us n h e f =
    let c = cut_names rule w v xs n h e in
    rw f (by_names rule v (cut_table_entries n xs) (named w.octets (cut_table_entries n xs)) h.plain c.1 (cut-new w.octets xs n h.new) (cut-ordered xs n h.ordered) c.0)

-- a pointer can lead to the suffix that was found
pub entries_reachable : (rule : Rule) (w : Written) (xs : List TableEntry) (content : List ℕ) (name : Labels) (from : ℕ) (offset : Option ℕ) → HasTableEntries rule w xs → content ≡ w.octets
    → IsFound (table_in content xs) name from offset → IsReachable name from offset
entries_reachable rule w xs content name from offset h e f =
    reachable_by offset (subst (λ (b : List ℕ). IsFound (table_in b xs) name from offset) e f).there
  where
    reachable_by : (offset : Option ℕ) → IsThere (table_in w.octets xs) name from offset → IsReachable name from offset
    reachable_by None t = tt
    reachable_by (Some p) t = (t.0, let k = h.target.each _ t.1.0 t.1.1 in let l = k.in_range in let z = t.1.2 in omega arith)

-- the names once the suffixes of a name are added
pub encode_names : (rule compressing : Rule) (w v : Written) (xs : List TableEntry) (name : Labels) (octets : List ℕ) (ss : List Suffix) → IsName name → HasTableEntries rule w xs
    → v ≡ append (encode_octets octets) w → IsEncoded compressing name (table_in w.octets xs) (length w.octets) octets ss
    → let ps = with_names (named w.octets xs) ss (length w.octets + length octets) in
    AreNew ps × (named v.octets (with_suffixes xs ss (length w.octets + length octets)) ≡ ps) × IsTableOf v.octets (from_entries {R = suffix_cmp} ps)
encode_names rule compressing w v xs name octets ss is h e encoding =
    let m = table_in w.octets xs in
    let end = length w.octets + length octets in
    let ps = with_names (named w.octets xs) ss end in
    let new : AreNew ps = with_names-new (named w.octets xs) ss end h.new encoding.new in
    let all : from_entries {R = suffix_cmp} ps ≡ (encode_name compressing name m (length w.octets)).table = entries-with_names (named w.octets xs) ss end ∙ sym encoding.table in
    let target = (encodes_name compressing name is).keeps (with_table_entries w xs) h.target in
    let content : v.octets ≡ w.octets ++ (encode_name compressing name m (length w.octets)).octets = ap (λ (x : Written). x.octets) e ∙ ap (λ (ys : List ℕ). w.octets ++ ys) (sym encoding.octets) in
    let r : IsTableOf v.octets (from_entries {R = suffix_cmp} ps) =
    subst (λ (b : List ℕ). IsTableOf b (from_entries {R = suffix_cmp} ps)) (sym content)
    (subst (λ (q : CompressionTable). IsTableOf (w.octets ++ (encode_name compressing name m (length w.octets)).octets) q) (sym all) target) in (
      new,
      ap (named v.octets) (sym (table_entries-with_names (named w.octets xs) ss end
          ∙ ap (λ ys. with_suffixes ys ss end) (table_entries-named w.octets xs)))
          ∙ named-table_entries v.octets (from_entries ps) ps r (all_get ps new),
      r,
    )

-- the invariant once the suffixes of a name are added
pub entries_put : (rule compressing : Rule) (w v : Written) (xs us : List TableEntry) (name : Labels) (octets : List ℕ) (ss : List Suffix) → IsName name → HasTableEntries rule w xs
    → v ≡ append (encode_octets octets) w → IsEncoded compressing name (table_in w.octets xs) (length w.octets) octets ss → us ≡ with_suffixes xs ss (length w.octets + length octets)
    → HasTableEntries rule v us
entries_put rule compressing w v xs us name octets ss is h e encoding f =
    let end = length w.octets + length octets in
    let names = encode_names rule compressing w v xs name octets ss is h e encoding in
    let last : last_end xs ≤ length w.octets = last_within w.octets xs (length w.octets) (ends_within_content h.target) in
    rw f (by_names rule v (with_suffixes xs ss end) _ h.plain names.1 names.0 (with_suffixes-ordered xs ss end h.ordered (omega arith)).0 names.2)

-- octets and table are then those that the rule gives
pub put_entries : (rule compressing : Rule) (w v now : Written) (xs us : List TableEntry) (name : Labels) (octets : List ℕ) (ss : List Suffix) → IsName name → HasTableEntries rule w xs
    → v ≡ append (encode_octets octets) w → IsEncoded compressing name (table_in w.octets xs) (length w.octets) octets ss → us ≡ with_suffixes xs ss (length w.octets + length octets)
    → with_table_entries w xs ≡ now → with_table_entries v us ≡ append (encode_name compressing name) now
put_entries rule compressing w v now xs us name octets ss is h e encoding f s =
    let end = length w.octets + length octets in
    let names = encode_names rule compressing w v xs name octets ss is h e encoding in
    ap (with_table_entries v) f
    ∙ same_written (with_table_entries v (with_suffixes xs ss end)) (append (encode_name compressing name) (with_table_entries w xs))
    (ap (λ (x : Written). x.octets) e ∙ ap (λ (ys : List ℕ). w.octets ++ ys) (sym encoding.octets))
    (ap (λ (ps : List (Labels × TableEntry)). from_entries {R = suffix_cmp} ps) names.1 ∙ entries-with_names (named w.octets xs) ss end ∙ sym encoding.table)
    ∙ ap (append (encode_name compressing name)) s

-- a static compressor writes and adds what its rule says
pub static_encoded : (m : CompressionTable) (w entry_count : ℕ) (name : Labels) (from count : ℕ) (offset : Option ℕ) → entry_count ≡ len m
    → IsFound m name from offset → Enters Static w entry_count name from count
    → IsEncoded Static name m w (planned_octets (nat_lt count from) name from offset) (first_suffixes count name w)
static_encoded m w entry_count name from count offset e f k = planned_encoded Static m w name from count offset (λ e. cc) refl f (subst (λ (h : ℕ). Enters Static w h name from count) e k)

-- so does a tree compressor, however many suffixes are in its table
pub tree_encoded : (m : CompressionTable) (w : ℕ) (name : Labels) (from count : ℕ) (offset : Option ℕ) → IsFound m name from offset → Enters Tree w 0 name from count
    → IsEncoded Tree name m w (planned_octets (nat_lt count from) name from offset) (first_suffixes count name w)
tree_encoded m w name from count offset f k =
    planned_encoded Tree m w name from count offset (λ e. cc) refl f (record { within = k.within; in_range = λ i l. k.in_range i l; far = λ l. k.far l })

-- the length of the octets after an append
pub ending : (w v : Written) (octets content : List ℕ) → content ≡ v.octets → v ≡ append (encode_octets octets) w → length content ≡ length w.octets + length octets
ending w v octets content e o = ap length e ∙ ap (λ (x : Written). length x.octets) o ∙ length-append w.octets octets

-- if the octets of a name are appended, the name fits the capacity
pub name_fits : (compressing : Rule) (capacity : Option ℕ) (grows : Bool) (w v now : Written) (xs : List TableEntry) (name : Labels) (octets : List ℕ) (ss : List Suffix)
    → Appends capacity grows (encode_octets octets) w v {X = Unit {0}} (Ok tt) → IsEncoded compressing name (table_in w.octets xs) (length w.octets) octets ss → with_table_entries w xs ≡ now
    → Fits capacity (length (append (encode_name compressing name) now).octets)
name_fits compressing capacity grows w v now xs name octets ss a encoding s =
    subst (λ (t : Written). Fits capacity (length (append (encode_name compressing name) t).octets)) s
    (subst (λ (ys : List ℕ). Fits capacity (length (w.octets ++ ys))) (sym encoding.octets) a.outcome)

-- a name is appended
pub name_appended : (rule compressing : Rule) (capacity : Option ℕ) (grows all_grow : Bool) (w v now : Written) (xs us : List TableEntry) (name : Labels) (octets : List ℕ) (ss : List Suffix)
    → IsName name → HasTableEntries rule w xs → Appends capacity grows (encode_octets octets) w v {X = Unit {0}} (Ok tt)
    → IsEncoded compressing name (table_in w.octets xs) (length w.octets) octets ss → us ≡ with_suffixes xs ss (length w.octets + length octets) → with_table_entries w xs ≡ now
    → Appends capacity all_grow (encode_name compressing name) now (with_table_entries v us) {X = Unit {0}} (Ok tt)
name_appended rule compressing capacity grows all_grow w v now xs us name octets ss is h a encoding f s = record {
  ok = put_entries rule compressing w v now xs us name octets ss is h a.ok encoding f s;
  err = tt;
  outcome = name_fits compressing capacity grows w v now xs name octets ss a encoding s;
}

-- an append of a name fails
pub name_refused : (compressing : Rule) (capacity : Option ℕ) (grows all_grow : Bool) (w v now : Written) (xs us : List TableEntry) (name : Labels) (octets : List ℕ) (ss : List Suffix)
    (r : Result (Unit {0}) AppendError) (e : AppendError) → r ≡ Err e → (grows ≡ true → all_grow ≡ true) → Appends capacity grows (encode_octets octets) w v {X = Unit {0}} (Err e)
    → IsEncoded compressing name (table_in w.octets xs) (length w.octets) octets ss → us ≡ xs → with_table_entries w xs ≡ now
    → Appends capacity all_grow (encode_name compressing name) now (with_table_entries v us) r
name_refused compressing capacity grows all_grow w v now xs us name octets ss r e out more a encoding f s =
    rw (out, f)
    (subst (λ (t : Written). Appends capacity all_grow (encode_name compressing name) t (with_table_entries v xs) {X = Unit {0}} (Err e)) s (record {
      ok = tt;
      err = ap (λ (t : Written). with_table_entries t xs) a.err;
      outcome = result_by e a.outcome;
    }))
  where
    result_by : (e : AppendError) → AppendReturns {X = Unit {0}} capacity grows (length (append (encode_octets octets) w).octets) (Err e)
        → AppendReturns {X = Unit {0}} capacity all_grow (length (append (encode_name compressing name) (with_table_entries w xs)).octets) (Err e)
    result_by ShortBuf k = subst (λ (ys : List ℕ). Exceeds capacity (length (w.octets ++ ys))) (sym encoding.octets) k
    result_by OutOfMemory k = (subst (λ (ys : List ℕ). Fits capacity (length (w.octets ++ ys))) (sym encoding.octets) k.0, more k.1)

-- if one of two may allocate, both together may
pub or_first : (a b : Bool) → a ≡ true → (a || b) ≡ true
or_first true b e = refl
or_first false b e = absurd (cc)

-- A disjunction whose second part is true is true.
pub or_second : (a b : Bool) → b ≡ true → (a || b) ≡ true
or_second true b e = refl
or_second false b e = e

-- the invariant, in the form that the index requires
pub are_table_entries : (rule : Rule) (w : Written) (xs : List TableEntry) (content : List ℕ) → HasTableEntries rule w xs → content ≡ w.octets → AreTableEntries content xs
are_table_entries rule w xs content h e = subst (λ (b : List ℕ). AreTableEntries b xs) (sym e) (record { new = h.new; is_table = h.target })

-- a planned name is written as its rule says
pub plan_encoded : {rule compressing : Rule} {w : Written} {xs : List TableEntry} {name labels : Labels} {content : List ℕ} {from : ℕ} {offset : Option ℕ}
    (whole : Bool) (count : ℕ) → HasTableEntries rule w xs → labels ≡ name → content ≡ w.octets
    → IsFound (table_in content xs) labels from offset → Plans compressing (length xs) labels (length content) from offset whole count
    → let octets = planned_octets whole labels from offset in
    IsEncoded compressing name (table_in w.octets xs) (length w.octets) octets (first_suffixes count name (length w.octets))
plan_encoded {compressing = compressing} {w = w} {xs = xs} {labels = labels} {content = content} {from = from} {offset = offset} whole count h l p f plans =
    let m = table_in w.octets xs in
    let octets = planned_octets whole labels from offset in
    let found : IsFound m labels from offset = subst (λ (b : List ℕ). IsFound (table_in b xs) labels from offset) p f in
    let made : IsEncoded compressing labels m (length content) octets (first_suffixes count labels (length content)) =
    plans m (len-table w.octets xs h.new) found in
    subst (λ (n : Labels). IsEncoded compressing n m (length w.octets) octets (first_suffixes count n (length w.octets))) l
    (subst (λ (b : List ℕ). IsEncoded compressing labels m (length b) octets (first_suffixes count labels (length b))) p made)

-- the entries after it
pub plan_table_entries : {w v : Written} {us : List TableEntry} {name labels : Labels} {content after : List ℕ} (xs : List TableEntry) (octets : List ℕ) (count : ℕ)
    → labels ≡ name → content ≡ w.octets → after ≡ v.octets → v ≡ append (encode_octets octets) w
    → us ≡ with_suffixes xs (first_suffixes count labels (length content)) (length after)
    → us ≡ with_suffixes xs (first_suffixes count name (length w.octets)) (length w.octets + length octets)
plan_table_entries {w = w} {v = v} {after = after} xs octets count l p e o f =
    let end = ending w v octets after e o in
    f ∙ (λ i. with_suffixes xs (first_suffixes count (l i) (length (p i))) (end i))

-- after the append the names of the entries are encoded in the octets
pub still_entries : (rule : Rule) (capacity : Option ℕ) (grows : Bool) (w v : Written) (xs : List TableEntry) (octets after : List ℕ)
    (r : Result (Unit {0}) AppendError) → HasTableEntries rule w xs → after ≡ v.octets
    → Appends capacity grows (encode_octets octets) w v r → AreTableEntries after xs
still_entries rule capacity grows w v xs octets after r h e a = are_table_entries rule v xs after (entries_appended rule capacity grows w v xs octets r h a) e

-- the suffixes to add
pub to_add : (rule compressing : Rule) (w v : Written) (xs : List TableEntry) (name labels : Labels) (content octets after : List ℕ) (from count : ℕ) (offset : Option ℕ)
    → IsName name → HasTableEntries rule w xs → labels ≡ name → content ≡ w.octets → after ≡ v.octets → v ≡ append (encode_octets octets) w
    → IsEncoded compressing name (table_in w.octets xs) (length w.octets) octets (first_suffixes count name (length w.octets))
    → IsFound (table_in content xs) labels from offset → count ≤ from → name_size (take from labels) < length octets
    → length octets ≤ max_size + 2 → IsToAdd after xs labels (length content) from offset count
to_add rule compressing w v xs name labels content octets after from count offset is h l p e o encoding f c g few =
    let names = encode_names rule compressing w v xs name octets (first_suffixes count name (length w.octets)) is h o encoding in
    let old : named v.octets xs ≡ named w.octets xs = grown_names rule w v xs octets h o in
    let ss : List Suffix = first_suffixes count name (length w.octets) in
    let found : IsFound (table_in w.octets xs) name from offset =
    subst (λ (n : Labels). IsFound (table_in w.octets xs) n from offset) l (subst (λ (b : List ℕ). IsFound (table_in b xs) labels from offset) p f) in
    let there : IsFound (table_in v.octets xs) name from offset =
    subst (λ (ps : List (Labels × TableEntry)). IsFound (from_entries {R = suffix_cmp} ps) name from offset) (sym old) found in
    let long : length v.octets ≡ length w.octets + length octets = ending w v octets v.octets refl o in
    let this : IsToAdd v.octets xs name (length w.octets) from offset count = record {
      within = c;
      long = let z : name_size (take from labels) ≡ name_size (take from name) = ap (λ (n : Labels). name_size (take from n)) l in omega (arith, long);
      short = omega (arith, long);
      found = there;
      names = ap (λ (n : ℕ). named v.octets (with_suffixes xs ss n)) long ∙ names.1 ∙ (λ i. with_names (sym old i) ss (sym long i));
      new = subst (λ (ps : List (Labels × TableEntry)). AreNew ps) (λ i. with_names (sym old i) ss (sym long i)) names.0;
    } in
    subst (λ (n : Labels). IsToAdd after xs n (length content) from offset count) (sym l)
    (subst (λ (b : List ℕ). IsToAdd after xs name (length b) from offset count) (sym p)
    (subst (λ (b : List ℕ). IsToAdd b xs name (length w.octets) from offset count) (sym e) this))

-- the names that a cut leaves
pub names_cut : (rule : Rule) (w v : Written) (xs us : List TableEntry) (n : ℕ) → HasTableEntries rule w xs → v ≡ cut_to n w
    → us ≡ cut_table_entries n xs → named (take n w.octets) us ≡ named w.octets us
names_cut rule w v xs us n h e f = ap (λ (b : List ℕ). named b us) (ap (λ (x : Written). x.octets) (sym e)) ∙ ap (named v.octets) f ∙ (cut_names rule w v xs n h e).1 ∙ ap (named w.octets) (sym f)

-- an append makes the octets no shorter
pub no_shorter : (capacity : Option ℕ) (grows : Bool) (w v : Written) (ys : List ℕ) (r : Result (Unit {0}) AppendError)
    → Appends capacity grows (encode_octets ys) w v r → length w.octets ≤ length v.octets
no_shorter capacity grows w v ys (Ok x) a = let z : length v.octets ≡ length (w.octets ++ ys) = ap (λ (x : Written). length x.octets) a.ok in omega (arith, length-append w.octets ys)
no_shorter capacity grows w v ys (Err e) a = let z : length v.octets ≡ length w.octets = ap (λ (x : Written). length x.octets) a.err in omega arith

-- nor does overwriting octets
pub over_shorter : (w v : Written) (xs : List TableEntry) (a : ℕ) (ys : List ℕ) (now : Written) → v ≡ overwrite a ys w
    → with_table_entries w xs ≡ now → a + length ys ≤ length now.octets → length w.octets ≤ length v.octets
over_shorter w v xs a ys now e s l =
    let inside : a + length ys ≤ length w.octets = subst (λ (x : Written). a + length ys ≤ length x.octets) (sym s) l in
    let k : length v.octets ≡ length w.octets = ap (λ (x : Written). length x.octets) e ∙ grind (arith, common_steps) in omega arith

-- what is written of a name is longer than the labels before the found suffix
pub planned_long : (whole : Bool) (name : Labels) (from : ℕ) (offset : Option ℕ) → from ≤ length name → name_size (take from name) < length (planned_octets whole name from offset)
planned_long true name from offset l = omega (arith, length-uncompressed name, size-take-le name from)
planned_long false name from None l = omega (arith, length-uncompressed name, size-take-le name from)
planned_long false name from (Some p) l =
    let whole = length-uncompressed name in
    let part = size-take-le name from in
    rw length-append (let k : length (take (name_size (take from name)) (uncompressed name)) ≡ name_size (take from name) =
    length-take-le (name_size (take from name)) (uncompressed name) (omega arith) in omega arith)

-- and has at most `max_size` octets and 2 more
pub planned_short : (whole : Bool) (name : Labels) (from : ℕ) (offset : Option ℕ) → IsName name → from ≤ length name → length (planned_octets whole name from offset) ≤ max_size + 2
planned_short true name from offset is l = let short = is.short in omega (arith, length-uncompressed name)
planned_short false name from None is l = let short = is.short in omega (arith, length-uncompressed name)
planned_short false name from (Some p) is l =
    let short = is.short in
    let whole = length-uncompressed name in
    let part = size-take-le name from in
    rw length-append (let k : length (take (name_size (take from name)) (uncompressed name)) ≡ name_size (take from name) =
    length-take-le (name_size (take from name)) (uncompressed name) (omega arith) in omega arith)

-- a target that is cut back after an append has the octets that it had
pub cut_back : (w v u : Written) (octets content : List ℕ) → content ≡ w.octets → v ≡ append (encode_octets octets) w → u ≡ cut_to (length content) v → u.octets ≡ w.octets
cut_back w v u octets content p o e =
    ap (λ (t : Written). t.octets) e ∙ (λ i. take (length (p i)) (o i).octets) ∙ take-length-append w.octets octets
  where
    take-length-append : (xs ys : List ℕ) → take (length xs) (xs ++ ys) ≡ xs
    take-length-append xs ys = grind (arith, common_steps)

-- with the same octets and the same entries the invariant holds
pub entries_again : (rule : Rule) (w u : Written) (xs us : List TableEntry) → HasTableEntries rule w xs → u.octets ≡ w.octets → us ≡ xs → HasTableEntries rule u us
entries_again rule w u xs us h o e = record {
  plain = h.plain;
  new = subst (λ (ps : List (Labels × TableEntry)). AreNew ps) (sym names) h.new;
  ordered = subst (λ (ys : List TableEntry). AreOrdered ys) (sym e) h.ordered;
  target = subst (λ (t : Written). IsTarget t) (sym (same_written _ _ o (ap (λ (ps : List (Labels × TableEntry)). from_entries {R = suffix_cmp} ps) names))) h.target;
}
  where
    names : named u.octets us ≡ named w.octets xs
    names = λ i. named (o i) (e i)

-- a name whose suffixes can't be added because an allocation fails
pub name_forgotten : (compressing : Rule) (capacity : Option ℕ) (all_grow : Bool) (w u now : Written) (xs us : List TableEntry)
    (name : Labels) → Fits capacity (length (append (encode_name compressing name) now).octets) → all_grow ≡ true
    → u.octets ≡ w.octets → us ≡ xs → with_table_entries w xs ≡ now → Appends capacity all_grow (encode_name compressing name) now (with_table_entries u us) {X = Unit {0}} (Err OutOfMemory)
name_forgotten compressing capacity all_grow w u now xs us name fits more o e s = record {
  ok = tt;
  err = (λ i. record { octets = o i; table = table_in (o i) (e i) }) ∙ s;
  outcome = (fits, more);
}
