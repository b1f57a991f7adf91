-- The words of OPT records.
use Rattle.std.proofs.Common.{◌-◌, ◌<◌, ◌≤◌, [], ◌∷◌, length, take, drop, subst, arith}
use Rattle.std.specs.Prelude.{Option, Result, IfOk}
use Rattle.std.proofs.lemmas.List.{take_all}
use Rattle.dns_script.specs.declared.opt_plan.OptPlan.{OptPlan}
use Rattle.dnsmsg_tool.specs.ScriptOptions.{ArePlanFields, ArePlanWords}
use Rattle.dnsmsg_tool.specs.ScriptWords.{LineWords, ReadsValue}
use Rattle.dnsmsg_tool.proofs.EachLemmas.{word_at}

-- Four words and those of options, as the words of an OPT record.
pub plan_words : {E : Type 0} (words : LineWords) (r : Result (Option OptPlan) E) → 4 ≤ length words
    → IfOk r (ReadsValue (λ plan. plan) (ArePlanFields (word_at words 0) (word_at words 1) (word_at words 2) (word_at words 3) (take (length words - 4) (drop 4 words))))
    → IfOk r (ReadsValue (λ plan. plan) (ArePlanWords words))
plan_words [] r least reads = absurd (omega arith)
plan_words (s ∷ []) r least reads = absurd (omega arith)
plan_words (s ∷ c ∷ []) r least reads = absurd (omega arith)
plan_words (s ∷ c ∷ v ∷ []) r least reads = absurd (omega arith)
plan_words (s ∷ c ∷ v ∷ f ∷ options) r least reads =
    subst (λ (ws : LineWords). IfOk r (ReadsValue (λ plan. plan) (ArePlanFields s.now c.now v.now f.now ws))) (take_all (length (s ∷ c ∷ v ∷ f ∷ options) - 4) options (omega arith)) reads

-- Fewer words are no OPT record.
pub few_plan : (words : LineWords) → length words < 4 → (plan : OptPlan) → ¬ (ArePlanWords words plan)
few_plan [] few plan are = are
few_plan (s ∷ []) few plan are = are
few_plan (s ∷ c ∷ []) few plan are = are
few_plan (s ∷ c ∷ v ∷ []) few plan are = are
few_plan (s ∷ c ∷ v ∷ f ∷ options) few plan are = absurd (omega arith)
