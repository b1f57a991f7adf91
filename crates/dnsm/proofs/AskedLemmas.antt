-- The number that reports why a query isn't answered is that of the first reason that holds.
use Rattle.std.proofs.Common.{◌≡◌, ◌∙◌, ℕ, ◌≤◌, ◌⊎◌, List, length, take, true, inl, inr, ap, sym, arith}
use Rattle.dns_code.specs.Header.{fields_in}
use Rattle.dns_code.specs.HeaderSection.{header_size}
use Rattle.dns_item.specs.Questions.{QuestionItem}
use Rattle.dns_item.proofs.theory.QuestionEntryLemmas.{question_or_fault}
use Rattle.dnsm_status.specs.Codes.{number_of}
use Rattle.dnsm_make.specs.Made.{Asks, AsksNothing, AsksOne}
use Rattle.dnsm_read.specs.Asked.{HoldsQuery}
use Rattle.dnsm_status.specs.declared.code.CallError.TheVariants as faults
use Rattle.dnsm_status.proofs.theory.FaultLemmas.{reported_small}

module _ (b : List ℕ) where
  -- there is at most one such question
  same_asked : (x y : QuestionItem) → AsksOne b x → AsksOne b y → x ≡ y
  same_asked x y h k = ((question_or_fault b).one header_size h.after k.after x y h.reads k.reads).1

  -- the buffer is no reason
  pub room_unreported : (n : ℕ) → AsksNothing b n → n ≡ number_of faults.NoRoom → ⊥
  room_unreported n (inl h) is = let e = h.1 in omega (arith, is, e)
  room_unreported n (inr (inl h)) is = let e = h.2 in omega (arith, is, e)
  room_unreported n (inr (inr (inl h))) is = let e = h.2 in omega (arith, is, e)
  room_unreported n (inr (inr (inr (inl h)))) is = let e = h.2 in omega (arith, is, e)
  room_unreported n (inr (inr (inr (inr (inl h))))) is = let small = reported_small h.2.2 in omega (arith, is, small)
  room_unreported n (inr (inr (inr (inr (inr (inl h)))))) is = let e = h.1 in omega (arith, is, e)
  room_unreported n (inr (inr (inr (inr (inr (inr h)))))) is = let e = h.1 in omega (arith, is, e)

  module _ (long : header_size ≤ length b) (is : (fields_in (take 4 b)).qr ≡ true) where
    -- It is reported as a response.
    pub response_reported : (n : ℕ) → AsksNothing b n → n ≡ number_of faults.IsResponse
    response_reported n (inl h) = let less = h.0 in absurd (omega arith)
    response_reported n (inr (inl h)) = h.2
    response_reported n (inr (inr (inl h))) = let not = h.0.query in absurd (cc)
    response_reported n (inr (inr (inr (inl h)))) = let not = h.0.query.query in absurd (cc)
    response_reported n (inr (inr (inr (inr (inl h))))) = let not = h.0.query.query in absurd (cc)
    response_reported n (inr (inr (inr (inr (inr (inl h)))))) = let not = h.0.1.standard.query.query in absurd (cc)
    response_reported n (inr (inr (inr (inr (inr (inr h)))))) = let not = h.0.1.standard.query.query in absurd (cc)

    -- A response asks for no address.
    pub response_unasked : (y : QuestionItem) → Asks b y → ⊥
    response_unasked y h = let not = h.question.standard.query.query in cc

  module _ (query : HoldsQuery b) (other : (fields_in (take 4 b)).opcode ≡ 0 → ⊥) where
    -- Its opcode is reported.
    pub opcode_reported : (n : ℕ) → AsksNothing b n → n ≡ number_of faults.OtherOpcode
    opcode_reported n (inl h) = let less = h.0 in let long = query.long in absurd (omega arith)
    opcode_reported n (inr (inl h)) = let is = h.1 in let not = query.query in absurd (cc)
    opcode_reported n (inr (inr (inl h))) = h.2
    opcode_reported n (inr (inr (inr (inl h)))) = absurd (other h.0.opcode)
    opcode_reported n (inr (inr (inr (inr (inl h))))) = absurd (other h.0.opcode)
    opcode_reported n (inr (inr (inr (inr (inr (inl h)))))) = absurd (other h.0.1.standard.opcode)
    opcode_reported n (inr (inr (inr (inr (inr (inr h)))))) = absurd (other h.0.1.standard.opcode)

    -- A query with another opcode asks for no address.
    pub opcode_unasked : (y : QuestionItem) → Asks b y → ⊥
    opcode_unasked y h = other h.question.standard.opcode

  module _ (x : QuestionItem) (asks : AsksOne b x) where
    module _ (other : x.class ≡ 1 → ⊥) where
      -- Its class is reported.
      pub class_reported : (n : ℕ) → AsksNothing b n → n ≡ number_of faults.OtherClass
      class_reported n (inl h) = let less = h.0 in let long = asks.standard.query.long in absurd (omega arith)
      class_reported n (inr (inl h)) = let is = h.1 in let not = asks.standard.query.query in absurd (cc)
      class_reported n (inr (inr (inl h))) = absurd (h.1 asks.standard.opcode)
      class_reported n (inr (inr (inr (inl h)))) = absurd (h.1 asks.one)
      class_reported n (inr (inr (inr (inr (inl h))))) = absurd ((question_or_fault b).not_both header_size asks.after x h.2.0 asks.reads h.2.1)
      class_reported n (inr (inr (inr (inr (inr (inl h)))))) = h.1
      class_reported n (inr (inr (inr (inr (inr (inr h)))))) = absurd (other (ap (λ (z : QuestionItem). z.class) (same_asked x h.0.0 asks h.0.1) ∙ h.0.2))

      -- A query of another class asks for no address.
      pub class_unasked : (y : QuestionItem) → Asks b y → ⊥
      class_unasked y h = other (ap (λ (z : QuestionItem). z.class) (same_asked x y asks h.question) ∙ h.class)

    module _ (internet : x.class ≡ 1) (no_address : x.rtype ≡ 1 → ⊥) (not_all : x.rtype ≡ 255 → ⊥) where
      -- Its type is reported.
      pub type_reported : (n : ℕ) → AsksNothing b n → n ≡ number_of faults.OtherType
      type_reported n (inl h) = let less = h.0 in let long = asks.standard.query.long in absurd (omega arith)
      type_reported n (inr (inl h)) = let is = h.1 in let not = asks.standard.query.query in absurd (cc)
      type_reported n (inr (inr (inl h))) = absurd (h.1 asks.standard.opcode)
      type_reported n (inr (inr (inr (inl h)))) = absurd (h.1 asks.one)
      type_reported n (inr (inr (inr (inr (inl h))))) = absurd ((question_or_fault b).not_both header_size asks.after x h.2.0 asks.reads h.2.1)
      type_reported n (inr (inr (inr (inr (inr (inl h)))))) = absurd (h.0.2 (ap (λ (z : QuestionItem). z.class) (sym (same_asked x h.0.0 asks h.0.1)) ∙ internet))
      type_reported n (inr (inr (inr (inr (inr (inr h)))))) = h.1

      unasked_by : (y : QuestionItem) → x ≡ y → (y.rtype ≡ 1) ⊎ (y.rtype ≡ 255) → ⊥
      unasked_by y same (inl is) = no_address (ap (λ (z : QuestionItem). z.rtype) same ∙ is)
      unasked_by y same (inr is) = not_all (ap (λ (z : QuestionItem). z.rtype) same ∙ is)

      -- A query of another type asks for no address.
      pub type_unasked : (y : QuestionItem) → Asks b y → ⊥
      type_unasked y h = unasked_by y (same_asked x y asks h.question) h.rtype
