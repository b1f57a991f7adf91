-- A builder is determined by the state that it represents, so items that were pushed and rewound leave no trace. RFC 1035 section 4.1.
use Rattle.std.specs.Prelude.{◌≡◌, List, length}
use Rattle.dns_wire.specs.Encoders.{Rule}
use Rattle.dns_item.specs.Items.{RecordItem}
use Rattle.dns_read.specs.declared.section.Section.{Section}
use Rattle.dns_build.specs.BuilderStates.{Built, Represents, MovesState}
use Rattle.dns_build.specs.State.{Stage, InQuestion, State, records_at, stage_of, with_first, with_questions, with_records, rewound}

-- builders at the same stage that represent the same state are equal as contracts see them: octets, compression table, limit and section starts
abbrev pub BuildersAreKnown : Type 0
BuildersAreKnown = (stage : Stage) (rule : Rule) (s : State) (a b : Built) → Represents stage rule s a → Represents stage rule s b → a ≡ b

-- `empty` represents a state whose section is rewound, and `full` the same state with the items `xs` pushed. Rewinding `full` gives `empty`.
abbrev pub PushesLeaveNothing : {X : Type 0} → Stage → (List X → State → State) → Type 0
PushesLeaveNothing {X} stage with_items =
    (rule : Rule) (s : State) (xs : List X) (empty full new : Built) → Represents stage rule (rewound stage s) empty
    → Represents stage rule (with_items xs s) full → MovesState stage stage rule (rewound stage) full new → new ≡ empty

-- A builder whose section is rewound equals one to which the section's items were never pushed.
pub record RewindsLeaveNothing : Type 0 where
  pub questions : PushesLeaveNothing InQuestion with_questions
  pub records : (stage : Stage) → PushesLeaveNothing stage (with_records stage)

-- A builder that is rewound to a mark equals the builder that was marked. `full` is the marked builder with the records `xs` pushed.
abbrev pub RewindsToMarks : Type 0
RewindsToMarks = (section : Section) (rule : Rule) (s : State) (xs : List RecordItem) (marked full new : Built) → let stage = stage_of section in
    Represents stage rule s marked → Represents stage rule (with_records stage xs s) full
    → MovesState stage stage rule (with_first stage (length (records_at stage s))) full new → new ≡ marked
