-- How an OPT record is found among the entries of a message.
use Rattle.std.proofs.Common.{◌≡◌, ◌∙◌, ℕ, zero, suc, ◌<◌, ◌≤◌, ◌==◌, Bool, true, false, List, [], ◌∷◌, ◌++◌, length, ap, sym, subst, refl, inl, inr, arith, append_assoc, append-nil, eq-eqb}
use Rattle.std.proofs.lemmas.Bool.Decides.{Decides-eqb, leb_tells}
use Rattle.std.specs.List.{cons_option, filter_map}
use Rattle.std.specs.Prelude.{Option, Some, None, Ok, Err, if◌then◌else◌}
use Rattle.dns_name.specs.Names.{Fault, Labels, NameAt}
use Rattle.dns_code.specs.HeaderSection.{header_size}
use Rattle.dns_item.specs.Items.{RecordEntry}
use Rattle.dns_read.specs.declared.section.Section.{Section}
use Rattle.dns_read.specs.declared.section.Section.TheVariants.{Answer, Authority, Additional}
use Rattle.dnsm_status.specs.Codes.{number_of}
use Rattle.dnsm_status.specs.declared.code.CallError.{CallError}
use Rattle.dnsm_read.specs.Opts.{IsOpt}
use Rattle.dnsm_read.specs.OnlyOpts.{EndsWith, FindsOpt, IsOnlyOpt, LacksOpt, PassesOver, opt_given, opts_of}
use Rattle.dnsm_read.specs.Steps.{IsOpen, Reports, ReportsRecord, Steps, left_from}
use Rattle.dnsm_read.specs.Walk.{Asked, Entry, Given, Stated, section_at, walk_of}
use Rattle.dnsm_read.specs.declared.walk.Cursor.{Cursor}
use Rattle.dnsm_read.specs.declared.walk.Item.{Item}

-- Which entries are OPT records.

third : (n : ℕ) → 1 ≤ n → n ≤ 3 → section_at n ≡ Additional → n ≡ 3
third zero some most is = absurd (omega arith)
third (suc zero) some most is = absurd (cc)
third (suc (suc zero)) some most is = absurd (cc)
third (suc (suc (suc n))) some most is = omega arith

test_false : (m n : ℕ) → (m ≡ n → ⊥) → (m == n) ≡ false
test_false m n other = by (m == n) refl
  where
    by : (test : Bool) → (m == n) ≡ test → (m == n) ≡ false
    by true is = absurd (other ((Decides-eqb m n).0 is))
    by false is = is

-- An entry that an item describes isn't an OPT record if the item isn't.
pub no_opt : (b : List ℕ) (item : Item) (x : Entry) → Reports b item x → (IsOpt item → ⊥) → opt_given (Ok x) ≡ None
no_opt b item (Asked x) h other = refl
no_opt b item (Stated Answer x) h other = refl
no_opt b item (Stated Authority x) h other = refl
no_opt b item (Stated Additional x) h other =
    let at = third item.section h.1 h.2 h.3 in
    let not : (x.rtype == 41) ≡ false = test_false x.rtype 41 (λ is. other (record { rtype = h.0.rtype ∙ is; section = at })) in
    ap (λ (test : Bool). if test then Some x else None) not

-- The entry is an OPT record, which the item describes.
pub record IsOptEntry (b : List ℕ) (item : Item) (x : Entry) : Type 0 where
  pub entry : RecordEntry
  pub same : x ≡ Stated Additional entry
  pub rtype : entry.rtype ≡ 41
  pub reports : ReportsRecord b item entry

additional_is : (n : ℕ) (which : Section) → n ≡ 3 → section_at n ≡ which → which ≡ Additional
additional_is n which three is = sym is ∙ ap section_at three

-- An item that is an OPT record describes an entry that is one.
pub an_opt : (b : List ℕ) (item : Item) (x : Entry) → Reports b item x → IsOpt item → IsOptEntry b item x
an_opt b item (Asked x) h is = absurd (let question = h.section in let additional = is.section in omega arith)
an_opt b item (Stated which x) h is = record {
  entry = x;
  same = ap (λ (w : Section). Stated w x) (additional_is item.section which is.section h.3);
  rtype = sym h.0.rtype ∙ is.rtype;
  reports = h.0;
}

-- Entries that are passed over.

passes_more : (xs : List Given) (x : Entry) → PassesOver xs → opt_given (Ok x) ≡ None → PassesOver (xs ++ Ok x ∷ [])
passes_more [] x passes none = (none, tt)
passes_more (Ok y ∷ xs) x passes none = (passes.0, passes_more xs x passes.1 none)
passes_more (Err f ∷ xs) x passes none = absurd passes

-- From the cursor `old` entries up to `now` were passed over.
pub record Passed (b : List ℕ) (old now : Cursor) : Type 0 where
  pub others : List Given
  pub passes : PassesOver others
  pub split : left_from b old ≡ others ++ left_from b now
  pub is_open : IsOpen b now

-- At first none is passed over.
pub none_passed : (b : List ℕ) (old : Cursor) → IsOpen b old → Passed b old old
none_passed b old is_open = record { others = []; passes = tt; split = refl; is_open = is_open }

module _ (b : List ℕ) (old now : Cursor) (passed : Passed b old now) where
  -- One more entry is passed over.
  pub one_passed : (new : Cursor) (item : Item) → Steps b now new item (Ok true) → (IsOpt item → ⊥) → Passed b old new
  one_passed new item steps other =
      record {
        others = passed.others ++ Ok steps.0 ∷ [];
        passes = passes_more passed.others steps.0 passed.passes (no_opt b item steps.0 steps.2 other);
        split =
            passed.split ∙ ap (λ (xs : List Given). passed.others ++ xs) steps.1
            ∙ sym (append_assoc passed.others (Ok steps.0 ∷ []) (left_from b new));
        is_open = steps.3;
      }

  -- Fewer entries are left.
  pub fewer_left : (new : Cursor) (item : Item) → Steps b now new item (Ok true) → length (left_from b new) < length (left_from b now)
  fewer_left new item steps = let size = ap length steps.1 in omega (arith, size)

  -- An OPT record is found.
  pub found_next : (new : Cursor) (item : Item) → Steps b now new item (Ok true) → IsOpt item → FindsOpt b old new item (Ok true)
  found_next new item steps is =
      let opt = an_opt b item steps.0 steps.2 is in (
        passed.others,
        passed.passes,
        (
          opt.entry,
          passed.split ∙ ap (λ (xs : List Given). passed.others ++ xs) steps.1
              ∙ ap (λ (x : Entry). let first : Given = Ok x in passed.others ++ first ∷ left_from b new) opt.same,
          opt.rtype,
          opt.reports,
          is.section,
          steps.3,
        ),
      )

  -- None is left.
  pub none_next : (new : Cursor) (item : Item) → Steps b now new item (Ok false) → FindsOpt b old new item (Ok false)
  none_next new item steps =
      let whole : left_from b old ≡ passed.others = passed.split ∙ ap (λ (xs : List Given). passed.others ++ xs) steps.0 ∙ append-nil passed.others in
      subst PassesOver (sym whole) passed.passes

  -- An error comes first.
  pub error_next : (new : Cursor) (item : Item) (fault : CallError) → Steps b now new item (Err fault) → FindsOpt b old new item (Err fault)
  error_next new item fault steps = (
    passed.others,
    passed.passes,
    (steps.0, passed.split ∙ ap (λ (xs : List Given). passed.others ++ xs) steps.1, steps.2),
  )

-- What is said of all entries.

opts_passed : (xs ys : List Given) → PassesOver xs → filter_map opt_given (xs ++ ys) ≡ filter_map opt_given ys
opts_passed [] ys passes = refl
opts_passed (Ok x ∷ xs) ys passes =
    ap (λ (o : Option RecordEntry). cons_option o (filter_map opt_given (xs ++ ys))) passes.0 ∙ opts_passed xs ys passes.1
opts_passed (Err f ∷ xs) ys passes = absurd passes

ends_passed : (xs ys : List Given) (end : Option Fault) → PassesOver xs → EndsWith ys end → EndsWith (xs ++ ys) end
ends_passed [] ys end passes ends = ends
ends_passed (Ok x ∷ xs) ys end passes ends = ends_passed xs ys end passes.1 ends
ends_passed (Err f ∷ xs) ys end passes ends = absurd passes

opts_found : (xs : List Given) (x : RecordEntry) (ys : List Given) → PassesOver xs → x.rtype ≡ 41
    → filter_map opt_given (xs ++ Ok (Stated Additional x) ∷ ys) ≡ x ∷ filter_map opt_given ys
opts_found xs x ys passes is =
    let own : (x.rtype == 41) ≡ true = eq-eqb x.rtype 41 is in
    opts_passed xs (Ok (Stated Additional x) ∷ ys) passes
    ∙ ap (λ (test : Bool). cons_option (if test then Some x else None) (filter_map opt_given ys)) own

-- What two searches from the first entry on find.
module _ (b : List ℕ) (start : Cursor) (all : left_from b start ≡ walk_of b) where
  whole_opts : (xs : List Given) → left_from b start ≡ xs → opts_of b ≡ filter_map opt_given xs
  whole_opts xs is = ap (λ (ys : List Given). filter_map opt_given ys) (sym all ∙ is)

  whole_end : (xs : List Given) (end : Option Fault) → left_from b start ≡ xs → EndsWith xs end → EndsWith (walk_of b) end
  whole_end xs end is ends = subst (λ (ys : List Given). EndsWith ys end) (sym is ∙ all) ends

  -- There is no OPT record.
  pub lacks_any : (new : Cursor) (item : Item) → FindsOpt b start new item (Ok false) → LacksOpt b 22
  lacks_any new item passes =
      let xs = left_from b start in
      let same : xs ≡ xs ++ [] = sym (append-nil xs) in
      inr (inr (inr (inl (whole_opts (xs ++ []) same ∙ opts_passed xs [] passes, whole_end (xs ++ []) None same (ends_passed xs [] None passes tt), refl))))

  -- An error precedes the first.
  pub lacks_first : (new : Cursor) (item : Item) (fault : CallError) → FindsOpt b start new item (Err fault) → LacksOpt b (number_of fault)
  lacks_first new item fault (others, passes, (f, is, reports)) =
      let none : opts_of b ≡ [] = whole_opts _ is ∙ opts_passed others (Err f ∷ []) passes in
      let few = ap length none in
      inr (inr (inl (omega (arith, few), (f, whole_end _ (Some f) is (ends_passed others (Err f ∷ []) (Some f) passes refl), reports))))

  module _ (mid : Cursor) (item : Item) (found : FindsOpt b start mid item (Ok true)) where
    abbrev entry : RecordEntry
    entry = found.2.0

    first_opts : (xs : List Given) → left_from b mid ≡ xs → opts_of b ≡ entry ∷ filter_map opt_given xs
    first_opts xs is =
        whole_opts _ found.2.1 ∙ opts_found found.0 entry (left_from b mid) found.1 found.2.2 ∙ ap (λ (ys : List Given). entry ∷ filter_map opt_given ys) is

    later_end : (xs : List Given) (end : Option Fault) → left_from b mid ≡ xs → EndsWith xs end → EndsWith (walk_of b) end
    later_end xs end is ends =
        whole_end _ end found.2.1 (ends_passed found.0 (Ok (Stated Additional entry) ∷ left_from b mid) end found.1 (subst (λ (ys : List Given). EndsWith ys end) (sym is) ends))

    -- The owner can be read.
    pub owner_there : (owner : Labels) × NameAt b item.place owner
    owner_there = (entry.owner, found.2.3.read.owner)

    -- There are two.
    pub lacks_only : (new : Cursor) (other : Item) → FindsOpt b mid new other (Ok true) → LacksOpt b 23
    lacks_only new other second =
        let two = first_opts _ second.2.1 ∙ ap (λ (ys : List RecordEntry). entry ∷ ys) (opts_found second.0 second.2.0 (left_from b new) second.1 second.2.2) in
        let size = ap length two in
        inr (inl (omega (arith, size), refl))

    -- An error follows it.
    pub lacks_later : (new : Cursor) (other : Item) (fault : CallError) → FindsOpt b mid new other (Err fault) → LacksOpt b (number_of fault)
    lacks_later new other fault (others, passes, (f, is, reports)) =
        let one = first_opts _ is ∙ ap (λ (ys : List RecordEntry). entry ∷ ys) (opts_passed others (Err f ∷ []) passes) in
        let few = ap length one in
        inr (inr (inl (omega (arith, few), (f, later_end _ (Some f) is (ends_passed others (Err f ∷ []) (Some f) passes refl), reports))))

    module _ (new : Cursor) (other : Item) (passes : FindsOpt b mid new other (Ok false)) where
      same : left_from b mid ≡ left_from b mid ++ []
      same = sym (append-nil (left_from b mid))

      one_opt : opts_of b ≡ entry ∷ []
      one_opt = first_opts _ same ∙ ap (λ (ys : List RecordEntry). entry ∷ ys) (opts_passed (left_from b mid) [] passes)

      no_error : EndsWith (walk_of b) None
      no_error = later_end _ None same (ends_passed (left_from b mid) [] None passes tt)

      -- Its owner isn't the root.
      pub lacks_root : ((owner : Labels) → NameAt b item.place owner → owner ≡ [] → ⊥) → LacksOpt b 24
      lacks_root not = inr (inr (inr (inr ((entry, one_opt, not entry.owner found.2.3.read.owner), no_error, refl))))

      -- It is the only one.
      pub only_opt : ((owner : Labels) → NameAt b item.place owner → owner ≡ []) → IsOnlyOpt b item
      only_opt is = record {
        entry = entry;
        only = one_opt;
        whole = no_error;
        root = is entry.owner found.2.3.read.owner;
        reports = found.2.3;
        section = found.2.4;
      }

-- What opening a message says of its length.

-- Octets that were opened have a header section.
pub is_long : (n status : ℕ) → (n < header_size → status ≡ 2) → status ≡ 0 → header_size ≤ n
is_long n status short done = elim (leb_tells header_size n) [
  | inl long ↦ long.1
  | inr less ↦ absurd (let two = short less.1 in omega arith)
]

-- Octets that weren't opened have none.
pub is_short : (n status : ℕ) → (header_size ≤ n → status ≡ 0) → (status ≡ 0 → ⊥) → n < header_size
is_short n status opens failed = elim (leb_tells header_size n) [
  | inl long ↦ absurd (failed (opens long.1))
  | inr less ↦ less.1
]
