-- An item that lacks its RDATA has none.
use Rattle.std.proofs.Common.{ℕ, ◌≤◌, List, length, inl, inr, sym, subst, arith}
use Rattle.std.proofs.lemmas.List.{length-take-le}
use Rattle.dns_name.specs.Names.{Fault}
use Rattle.dns_wire.specs.Parts.{Part}
use Rattle.dns_data.specs.Layout.{DataAt, Layout}
use Rattle.dns_data.proofs.theory.DataReading.{not_both, one_rdata}
use Rattle.dns_item.specs.RecordReading.{WholeDataFaultAt}
use Rattle.dns_item.specs.RecordReading.WholeDataFaultAt.{first, left_over}
use Rattle.fields_table.specs.FieldData.{type_layout}
use Rattle.dnsm_read.specs.DataFields.{IsDataIn, LacksData, data_end, data_type, up_to_data_end}
use Rattle.dnsm_read.specs.declared.walk.Item.{Item}

no_whole : (b : List ℕ) (layout : Layout) (p : ℕ) (parts : List Part) {f : Fault} → p ≤ length b → DataAt b layout p (length b) parts → WholeDataFaultAt b layout p f → ⊥
no_whole b layout p parts within at (first {f = f} fault) = not_both b layout p (length b) parts f within at fault
no_whole b layout p parts within at (left_over q others there less) = let same = (one_rdata b layout p (length b) q parts others at there).0 in omega arith

-- If a number says why an item has no RDATA of its type, then it has none.
pub no_data_in : (b : List ℕ) (item : Item) (n : ℕ) → LacksData b item n → (parts : List Part) → IsDataIn b item parts → ⊥
no_data_in b item n (inl lacks) parts there = let less = lacks.0 in let within = there.within in omega arith
no_data_in b item n (inr lacks) parts there =
    let seen = up_to_data_end b item in
    let layout = type_layout (data_type item) in
    let size = length-take-le (data_end item) b there.within in
    no_whole seen layout item.«data» parts (omega (arith, size)) (subst (λ q. DataAt seen layout item.«data» q parts) (sym size) there.fields) lacks.1.1
