-- What holds if a step of a walk stops.
use Rattle.std.specs.Prelude.{OnOk, Result, Ok, Err}
use Rattle.dnsview_rows.specs.Walks.{OnFaultOf}
use Rattle.dnsview_rows.specs.declared.row.RowFault.{RowFault}
use Rattle.dnsview_rows.specs.declared.walk.Stop.{Stop}
use Rattle.dnsview_rows.specs.declared.walk.Stop.TheVariants.{Fault, Memory}

-- What follows from a fault's fact holds of the fault.
pub on_fault : {T : Type 0} (r : Result T Stop) (P Q : RowFault → Type 0) → ((fault : RowFault) → P fault → Q fault) → OnFaultOf r P → OnFaultOf r Q
on_fault (Ok v) P Q f h = tt
on_fault (Err (Fault fault)) P Q f h = f fault h
on_fault (Err Memory) P Q f h = tt

-- What follows from two facts of a fault holds of the fault.
pub on_fault_2 : {T : Type 0} (r : Result T Stop) (P Q R : RowFault → Type 0) → ((fault : RowFault) → P fault → Q fault → R fault) → OnFaultOf r P → OnFaultOf r Q → OnFaultOf r R
on_fault_2 (Ok v) P Q R f h k = tt
on_fault_2 (Err (Fault fault)) P Q R f h k = f fault h k
on_fault_2 (Err Memory) P Q R f h k = tt

-- what holds if a step ends without a fault
pub on_ok : {T : Type 0} (r : Result T Stop) (P Q : Type 0) → (P → Q) → OnOk r P → OnOk r Q
on_ok (Ok v) P Q f h = f h
on_ok (Err stop) P Q f h = tt
