-- A builder always represents some state.
use Rattle.std.proofs.Common.{sym, subst, ℕ, Bool, Option, Result, Ok, Err}
use Rattle.std.proofs.Math.Logic.{∥∥₁_map}
use Rattle.dns_wire.specs.Encoders.{Rule}
use Rattle.dns_build.specs.BuilderStates.{Built, MovesState, RepresentsSome}
use Rattle.dns_build.specs.State.{Stage, State}
use Rattle.dns_build.specs.declared.push_error.PushError.{PushError}
use Rattle.dns_build.proofs.Moves.{ReturnsOfPush}

-- after a move
pub some_moved : (from to : Stage) (rule : Rule) (after : State → State) (old new : Built) → MovesState from to rule after old new → RepresentsSome from rule old → RepresentsSome to rule new
some_moved from to rule after old new moves some = ∥∥₁_map some (λ p. (after p.0, moves p.0 p.1))

-- after a push
pub some_pushed : (stage : Stage) (capacity : Option ℕ) (grows : Bool) (rule : Rule) (after : State → State) (count : State → ℕ) (old new : Built) (result : Result (Unit {0}) PushError)
    → ReturnsOfPush stage capacity grows rule after count old new result → RepresentsSome stage rule old → RepresentsSome stage rule new
some_pushed stage capacity grows rule after count old new (Ok u) push some = some_moved stage stage rule after old new push.accepted some
some_pushed stage capacity grows rule after count old new (Err e) push some = subst (RepresentsSome stage rule) (sym push.refused) some
