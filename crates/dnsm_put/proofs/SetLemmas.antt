-- Sets of items that are put.
use Rattle.std.proofs.Common.{◌≡◌, ◌∙◌, ℕ, suc, ◌+◌, ◌<◌, ◌≤◌, List, [], ◌∷◌, ◌++◌, length, drop, get_or, take, ap, arith, inl, inr, refl, subst, sym}
use Rattle.std.proofs.Math.Seq.{drop-cons, take-suc}
use Rattle.std.proofs.lemmas.List.{take-append-drop, take_all}
use Rattle.std.proofs.lemmas.List.Sums.{sum_by-append}
use Rattle.std.specs.List.{sum_by}
use Rattle.std.proofs.lemmas.List.Elements.{All-append, All-cons, All-nil}
use Rattle.std.specs.List.{All}
use Rattle.dns_build.specs.State.{State}
use Rattle.dnsm_put.specs.declared.draft.Draft.{Draft}
use Rattle.dnsm_put.specs.declared.draft.PutItem.{PutItem}
use Rattle.dnsm_put.specs.declared.draft.PutError.{PutError}
use Rattle.dnsm_put.specs.Items.{Means, item_size}
use Rattle.dnsm_put.specs.Drafts.{Adds, DraftsStay, IsDraftOf}
use Rattle.dnsm_put.specs.Refusals.{IsRefused}
use Rattle.dnsm_put.specs.Sets.{AddsAll, IsWith, IsWithAll, RefusesSet, last_section}
use Rattle.dnsm_put.proofs.Buffers.{kept_later}

-- A state with one more item comes of one with the items before it.
with_more : (items : List PutItem) (item : PutItem) (s t : State) → IsWithAll (items ++ item ∷ []) s t → (m : State) × IsWithAll items s m × IsWith item m t
with_more [] item s t h = (s, refl, subst (λ (u : State). IsWith item s u) (sym h.2) h.1)
with_more (x ∷ items) item s t h = let more = with_more items item h.0 t h.2 in (more.0, (h.0, h.1, more.1), more.2)

-- An item that was put gives the state with it.
add_one : (b c : List ℕ) (d e : Draft) (item : PutItem) (s t : State) → Adds b c d e item → IsDraftOf b d s → IsWith item s t → IsDraftOf c e t
add_one b c d e item s t adds i (inl h) = subst (λ (u : State). IsDraftOf c e u) (sym h.1.2) (adds.question h.0 s h.1.0 i h.1.1)
add_one b c d e item s t adds i (inr (inl h)) = subst (λ (u : State). IsDraftOf c e u) (sym h.1.2) (adds.answer h.0 s h.1.0 i h.1.1)
add_one b c d e item s t adds i (inr (inr (inl h))) = subst (λ (u : State). IsDraftOf c e u) (sym h.1.2) (adds.authority h.0 s h.1.0 i h.1.1)
add_one b c d e item s t adds i (inr (inr (inr h))) = subst (λ (u : State). IsDraftOf c e u) (sym h.1.2) (adds.additional h.0 s h.1.0 i h.1.1)

-- A draft and its octets after items were put, or refused: what was set stays, and what was before the message's end.
pub record Keeps (b c : List ℕ) (d e : Draft) : Type 0 where
  pub settings : (e.id ≡ d.id) × (e.flags ≡ d.flags) × (e.limit ≡ d.limit) × (e.reserved ≡ d.reserved) × (e.unchecked ≡ d.unchecked)
  pub later : d.len ≤ e.len
  pub long : length c ≡ length b
  pub kept : take d.len c ≡ take d.len b
  pub stay : DraftsStay b c d.len

-- Two such steps are one.
pub keeps_both : (b c c' : List ℕ) (d e e' : Draft) → Keeps b c d e → Keeps c c' e e' → Keeps b c' d e'
keeps_both b c c' d e e' h k = record {
  settings = (k.settings.0 ∙ h.settings.0, k.settings.1 ∙ h.settings.1, k.settings.2 ∙ h.settings.2, k.settings.3 ∙ h.settings.3, k.settings.4 ∙ h.settings.4);
  later = let first = h.later in let second = k.later in omega arith;
  long = k.long ∙ h.long;
  kept = kept_later c c' d.len e.len h.later k.kept ∙ h.kept;
  stay = λ f s low i. let first = h.later in k.stay f s (omega arith) (h.stay f s low i);
}

-- what is known after items were put in order
pub record HasPut (b c : List ℕ) (d e : Draft) (items : List PutItem) : Type 0 where
  pub adds : AddsAll b c d e items
  pub means : All Means items
  pub room : 0 < length items → (e.len + d.reserved ≤ length b) × (e.len + d.reserved ≤ d.limit)
  pub size : e.len ≤ d.len + sum_by item_size items
  pub section : e.section ≡ last_section d.section items
  pub keeps : Keeps b c d e

-- Before the first item nothing was put.
pub put_none : (b : List ℕ) (d : Draft) → HasPut b b d d []
put_none b d = record {
  adds = λ s t i w. subst (λ (u : State). IsDraftOf b d u) (sym w) i;
  means = All-nil Means;
  room = λ some. absurd (omega (arith, some));
  size = omega arith;
  section = refl;
  keeps = record { settings = (refl, refl, refl, refl, refl); later = omega arith; long = refl; kept = refl; stay = λ f s low i. i };
}

-- what is known of an item that was put
pub record PutOne (b c : List ℕ) (d e : Draft) (item : PutItem) : Type 0 where
  pub adds : Adds b c d e item
  pub means : Means item
  pub room : (e.len + d.reserved ≤ length b) × (e.len + d.reserved ≤ d.limit)
  pub size : e.len ≤ d.len + item_size item
  pub section : e.section ≡ item.section
  pub keeps : Keeps b c d e

last_added : (section : ℕ) (items : List PutItem) (item : PutItem) → last_section section (items ++ item ∷ []) ≡ item.section
last_added section [] item = refl
last_added section (x ∷ items) item = last_added x.section items item

-- One more item is put.
pub put_more : (b c c' : List ℕ) (d e e' : Draft) (items : List PutItem) (item : PutItem) → HasPut b c d e items → PutOne c c' e e' item → HasPut b c' d e' (items ++ item ∷ [])
put_more b c c' d e e' items item h one =
    let reserved : e.reserved ≡ d.reserved = h.keeps.settings.3 in
    let limit : e.limit ≡ d.limit = h.keeps.settings.2 in
    let long = h.keeps.long in
    let within = one.room.0 in
    let below = one.room.1 in
    record {
      adds = λ s t i w. let more = with_more items item s t w in add_one c c' e e' item more.0 t one.adds (h.adds s more.0 i more.1) more.2;
      means = All-append Means items (item ∷ []) h.means (All-cons Means item [] one.means (All-nil Means));
      room = λ some. (omega arith, omega arith);
      size =
          let sizes = sum_by-append item_size items (item ∷ []) in
          let first = h.size in
          let second = one.size in
          omega arith;
      section = one.section ∙ sym (last_added d.section items item);
      keeps = keeps_both b c c' d e e' h.keeps one.keeps;
    }

-- the same, of the items up to an index
pub put_next : (b c c' : List ℕ) (d e e' : Draft) (items : List PutItem) (i : ℕ) (some : PutItem) → i < length items → HasPut b c d e (take i items) → PutOne c c' e e' (get_or items i some)
    → HasPut b c' d e' (take (i + 1) items)
put_next b c c' d e e' items i some within h one =
    let next : suc i ≡ i + 1 = omega arith in
    subst (λ (xs : List PutItem). HasPut b c' d e' xs) (sym (take-suc items i some within) ∙ ap (λ k. take k items) next) (put_more b c c' d e e' (take i items) (get_or items i some) h one)

-- After the last item all are put.
pub put_whole : (b c : List ℕ) (d e : Draft) (items : List PutItem) (i : ℕ) → length items ≤ i → HasPut b c d e (take i items) → HasPut b c d e items
put_whole b c d e items i past h = subst (λ (xs : List PutItem). HasPut b c d e xs) (take_all i items past) h

-- The item at an index is refused.
pub refuses_next : (b c : List ℕ) (d e : Draft) (items : List PutItem) (i : ℕ) (some : PutItem) (error : PutError) → i < length items → HasPut b c d e (take i items)
    → IsRefused e (length c) (get_or items i some) error → RefusesSet b d items error
refuses_next b c d e items i some error within h refused =
    let next : suc i ≡ i + 1 = omega arith in
    let parts : drop i items ≡ get_or items i some ∷ drop (i + 1) items = drop-cons items i some within ∙ ap (λ k. get_or items i some ∷ drop k items) next in
    record {
      first = take i items;
      next = get_or items i some;
      others = drop (i + 1) items;
      all = sym (take-append-drop i items) ∙ ap (λ (xs : List PutItem). take i items ++ xs) parts;
      octets = c;
      after = e;
      long = h.keeps.long;
      adds = h.adds;
      size = h.size;
      section = h.section;
      settings = (h.keeps.settings.2, h.keeps.settings.3, h.keeps.settings.4);
      refused = subst (λ n. IsRefused e n (get_or items i some) error) h.keeps.long refused;
    }
