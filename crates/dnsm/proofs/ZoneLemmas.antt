-- Records that lines represent are items. Text that represents nothing isn't reported as a want of room.
use Rattle.std.proofs.Common.{◌≡◌, ◌∙◌, ap, ℕ, ◌-◌, ◌⊎◌, List, inl, inr, arith, subst, sym, take}
use Rattle.dns_wire.specs.Parts.{Part}
use Rattle.dns_data.specs.Layout.{DataAt}
use Rattle.dns_item.specs.Items.{RecordEntry}
use Rattle.dns_item.proofs.theory.EntryLemmas.{record_or_fault}
use Rattle.fields_table.specs.FieldData.{type_layout}
use Rattle.fields_table.specs.LayoutTypes.{layout_type}
use Rattle.fields_records.specs.FieldWords.{Words}
use Rattle.dnsm_zone.specs.Lines.{AreRecord, HasFields}
use Rattle.dnsm_read.specs.DataFields.{IsDataIn, data_end}
use Rattle.dnsm_read.specs.DataTexts.{RecordAt}
use Rattle.dnsm_read.specs.Steps.{ReportsRecord}
use Rattle.dnsm_read.specs.declared.walk.Item.{Item}
use Rattle.dnsm_put.specs.Copies.{HasNumbers, IsItemIn}
use Rattle.dnsm_put.proofs.theory.ItemLemmas.{is_item}
use Rattle.dnsm_status.specs.Codes.{number_of}
use Rattle.dnsm_status.specs.declared.code.CallError.{CallError}
use Rattle.dnsm_status.specs.declared.code.CallError.TheVariants as faults

module _ (b : List ℕ) (item : Item) (x : RecordEntry) (reports : ReportsRecord b item x) where
  -- The fields of a record are those of the item that describes it.
  fields_reported : HasFields b x → (parts : List Part) × IsDataIn b item parts
  fields_reported fields =
      let parts = fields.0 in
      let P : ℕ → ℕ → ℕ → ℕ → ℕ → Type 0 = λ end start class len rtype. DataAt (take end b) (type_layout (layout_type class len rtype)) start end parts in
      let start = reports.rdata_start in
      let end = reports.rdata_end in
      let len : x.rdata_end - x.rdata_start ≡ item.data_len = omega arith in
      let a = subst (λ k. P k x.rdata_start x.class (x.rdata_end - x.rdata_start) x.rtype) (sym end) fields.1 in
      let c = subst (λ k. P (data_end item) k x.class (x.rdata_end - x.rdata_start) x.rtype) (sym start) a in
      let d = subst (λ k. P (data_end item) item.«data» k (x.rdata_end - x.rdata_start) x.rtype) (sym reports.class) c in
      let e = subst (λ k. P (data_end item) item.«data» item.class k x.rtype) len d in
      (parts, record { within = reports.within; fields = subst (P (data_end item) item.«data» item.class item.data_len) (sym reports.rtype) e })

  -- The item that describes a record of a line, in its octets, is a record.
  pub line_means : (words : Words) → AreRecord b words → RecordAt b 0 x → HasNumbers item → IsItemIn b item
  line_means words are at numbers =
      let same = (record_or_fault b).one 0 _ _ are.reads.entry x are.reads.reads at.1 in
      let fields : HasFields b x = subst (HasFields b) same.1 are.fields in
      is_item b item numbers x.owner reports.read.owner (λ some. fields_reported fields)

module _ (Text Lacks : Type 0) (fault : CallError) (why : ((fault ≡ faults.NoMemory) × Text) ⊎ ((fault ≡ faults.BadText) × Lacks)) where
  -- the number of the reason is another
  pub text_unreported : number_of fault ≡ number_of faults.NoRoom → ⊥
  text_unreported = by why
    where
      by : ((fault ≡ faults.NoMemory) × Text) ⊎ ((fault ≡ faults.BadText) × Lacks) → number_of fault ≡ number_of faults.NoRoom → ⊥
      by (inl h) is = let e = ap number_of h.0 in omega (arith, is, e)
      by (inr h) is = let e = ap number_of h.0 in omega (arith, is, e)

  -- the number reports the reason
  pub text_reported : (n : ℕ) → n ≡ number_of fault → ((n ≡ number_of faults.NoMemory) × Text) ⊎ ((n ≡ number_of faults.BadText) × Lacks)
  text_reported n is = by why
    where
      by : ((fault ≡ faults.NoMemory) × Text) ⊎ ((fault ≡ faults.BadText) × Lacks) → ((n ≡ number_of faults.NoMemory) × Text) ⊎ ((n ≡ number_of faults.BadText) × Lacks)
      by (inl h) = inl (is ∙ ap number_of h.0, h.1)
      by (inr h) = inr (is ∙ ap number_of h.0, h.1)
