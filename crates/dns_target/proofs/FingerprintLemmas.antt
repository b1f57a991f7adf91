-- Searching, adding and removing entries with hashes, and their buckets.
use Rattle.std.proofs.Common.{◌≡◌, ◌≢◌, ℕ, suc, ◌+◌, ◌-◌, ◌<◌, ◌≤◌, List, [], ◌∷◌, length, take, get_or, ap, sym, ◌∙◌, refl, subst, arith, ◌++◌, reverse, set, length-append}
use Rattle.std.proofs.lemmas.List.{length-map, length-set, map_push, map-set, get_or-map, get_or-set_same, get_or_default, take_all}
use Rattle.dns_name.specs.Names.{Labels}
use Rattle.dns_wire.specs.Encoders.{CompressionTable, TableEntry}
use Rattle.dns_target.specs.declared.fingerprint_index.Fingerprint.{Fingerprint}
use Rattle.dns_target.specs.FingerprintIndex.{hash_of, FingerprintEntry, table_entry_at, table_entries_at, AreHashed, cut_hashed, hashed_of, all_hashed_of, bucket, buckets_of, olders_of, IsLinked}
use Rattle.dns_target.specs.TableEntries.{name_in, cut_table_entries, table_in, AreNamesAt}
use Rattle.dns_target.proofs.EntryLists.{IsSought, sought_on}
use Rattle.dns_target.proofs.NewestFirst.{taken, cut_keeps, map-cut}
use Rattle.std.specs.Prelude.{bit_and}
use Rattle.std.proofs.lemmas.Nat.{and_le_r}
use Rattle.std.proofs.Math.Seq.{map-set_same}
use Rattle.dns_target.specs.Chains.{IsChained}
use Rattle.dns_target.proofs.Chaining.{chained_same, link, chained_push, chained_pop, chained_set, SkipsOthers, IsWalked, walk_start, walk_next, older-le}

-- during a search, the first i entries remain: the name is in the table if it is among them
pub record IsSuffixSought (b : List ℕ) (m : CompressionTable) (n : Labels) (ms : List Fingerprint) (i : ℕ) : Type 0 where
  pub within : i ≤ length ms
  pub hashed : AreHashed b (all_hashed_of (take i ms))
  pub sought : IsSought b m n (table_entries_at (all_hashed_of (take i ms)))

-- the entry that is compared is the newest of those that remain
pub record IsLast (b : List ℕ) (m : CompressionTable) (n : Labels) (ms : List Fingerprint) (k : ℕ) (x : FingerprintEntry) : Type 0 where
  pub inside : k < length ms
  pub hashed : AreHashed b (x ∷ all_hashed_of (take k ms))
  pub sought : IsSought b m n (table_entries_at (x ∷ all_hashed_of (take k ms)))

-- A fingerprint that was looked at is passed.
pub looked_at : (b : List ℕ) (m : CompressionTable) (n : Labels) (ms : List Fingerprint) (i k : ℕ) (x : Fingerprint) → i ≡ k + 1
    → IsSuffixSought b m n ms i → x ≡ get_or ms k x → IsLast b m n ms k (hashed_of x)
looked_at b m n ms i k x e h is =
    let w : IsSuffixSought b m n ms (k + 1) = subst (λ j. IsSuffixSought b m n ms j) e h in
    let l : k < length ms = let z = w.within in omega arith in
    let at : all_hashed_of (take (k + 1) ms) ≡ hashed_of x ∷ all_hashed_of (take k ms) = taken hashed_of ms k x l ∙ ap (λ (y : Fingerprint). hashed_of y ∷ all_hashed_of (take k ms)) (sym is) in
    record { inside = l; hashed = subst (λ xs. AreHashed b xs) at w.hashed; sought = subst (λ xs. IsSought b m n (table_entries_at xs)) at w.sought }

-- it isn't the name's
pub sought_other : (b : List ℕ) (m : CompressionTable) (n : Labels) (ms : List Fingerprint) (k : ℕ) (x : FingerprintEntry) → IsLast b m n ms k x → n ≢ name_in b x.offset → IsSuffixSought b m n ms k
sought_other b m n ms k x h other = record {
  within = let z = h.inside in omega arith;
  hashed = h.hashed.1;
  sought = sought_on b m n (table_entry_at x) (table_entries_at (all_hashed_of (take k ms))) h.sought other;
}

-- it isn't, because the hashes differ
pub other_hash : (b : List ℕ) (m : CompressionTable) (n : Labels) (ms : List Fingerprint) (k hash : ℕ) (x : FingerprintEntry)
    → IsLast b m n ms k x → hash ≡ hash_of n → x.hash ≢ hash → n ≢ name_in b x.offset
other_hash b m n ms k hash x h e differs = λ q. differs (h.hashed.0 ∙ ap hash_of (sym q) ∙ sym e)

-- removing entries with and without their hashes is the same
pub table_entries-cut_hashed : (xs : List FingerprintEntry) (len : ℕ) → table_entries_at (cut_hashed len xs) ≡ cut_table_entries len (table_entries_at xs)
table_entries-cut_hashed xs len = map-cut table_entry_at (λ (x : TableEntry). x.end) len xs

-- the entries that are left have their hashes
pub hashed_cut : (b : List ℕ) (xs : List FingerprintEntry) (len : ℕ) → AreHashed b xs → AreHashed b (cut_hashed len xs)
hashed_cut b xs len h = cut_keeps (λ (x : FingerprintEntry). x.end) len (λ ys. AreHashed b ys) (λ y ys k. k.1) xs h

-- the bucket of a hash is one of the buckets
bucket_in : (size hash : ℕ) → 0 < size → bucket size hash < size
bucket_in size hash l = let k = and_le_r hash (size - 1) in omega arith

length-olders : (ms : List Fingerprint) → length (olders_of ms) ≡ length ms
length-olders ms = length-map ms (λ (m : Fingerprint). m.older)

length-buckets : (size : ℕ) (ms : List Fingerprint) → length (buckets_of size ms) ≡ length ms
length-buckets size ms = length-map ms (λ (m : Fingerprint). bucket size m.hash)

buckets_push : (size : ℕ) (ms all : List Fingerprint) (m : Fingerprint) → all ≡ ms ++ m ∷ [] → buckets_of size all ≡ buckets_of size ms ++ bucket size m.hash ∷ []
buckets_push size ms all m e = ap (buckets_of size) e ∙ map_push (λ (m : Fingerprint). bucket size m.hash) ms m

olders_push : (ms all : List Fingerprint) (m : Fingerprint) → all ≡ ms ++ m ∷ [] → olders_of all ≡ olders_of ms ++ m.older ∷ []
olders_push ms all m e = ap olders_of e ∙ map_push (λ (m : Fingerprint). m.older) ms m

one_more : (ms all : List Fingerprint) (m : Fingerprint) → all ≡ ms ++ m ∷ [] → length all ≡ suc (length ms)
one_more ms all m e = let z = ap length e ∙ length-append ms (m ∷ []) in omega arith

-- an entry is appended
pub linked_push : (heads done : List ℕ) (ms after : List Fingerprint) (m : Fingerprint) (n : ℕ) → IsLinked heads ms → after ≡ ms ++ m ∷ [] → n ≡ length ms + 1
    → done ≡ set heads (bucket (length heads) m.hash) n → (0 < length heads → m.older ≡ get_or heads (bucket (length heads) m.hash) 0) → IsLinked done after
linked_push heads done ms after m n h made count is o some =
    let size = length heads in
    let long : length done ≡ size = ap length is ∙ length-set heads (bucket size m.hash) n in
    let there : 0 < size = omega arith in
    let last : suc (length ms) ≡ n = omega arith in
    chained_same _ _ _ _ _ _ _ _ (ap (set heads (bucket size m.hash)) last ∙ sym is)
    (sym (buckets_push size ms after m made) ∙ ap (λ s. buckets_of s after) (sym long)) (sym (olders_push ms after m made))
    (sym (one_more ms after m made))
    (chained_push heads (buckets_of size ms) (olders_of ms) (length ms) (bucket size m.hash) m.older (h there) (length-buckets size ms) (length-olders ms) (bucket_in size m.hash there) (o there))

-- the last entry is removed
pub linked_pop : (heads done : List ℕ) (ms before : List Fingerprint) (m : Fingerprint) → IsLinked heads before → before ≡ ms ++ m ∷ []
    → done ≡ set heads (bucket (length heads) m.hash) m.older → IsLinked done ms
linked_pop heads done ms before m h made is some =
    let size = length heads in
    let long : length done ≡ size = ap length is ∙ length-set heads (bucket size m.hash) m.older in
    let there : 0 < size = omega arith in
    let all = chained_same _ _ _ _ _ _ _ _ refl (buckets_push size ms before m made) (olders_push ms before m made) (one_more ms before m made) (h there) in
    chained_same _ _ _ _ _ _ _ _ (sym is) (ap (λ s. buckets_of s ms) (sym long)) refl refl
    (chained_pop heads (buckets_of size ms) (olders_of ms) (length ms) (bucket size m.hash) m.older all (length-buckets size ms) (length-olders ms) (bucket_in size m.hash there))

-- one more entry is linked into its bucket
pub chain_step : (heads done : List ℕ) (ms after : List Fingerprint) (x m : Fingerprint) (k n : ℕ) → (0 < length heads → IsChained heads (buckets_of (length heads) ms) (olders_of ms) k)
    → k < length ms → n ≡ k + 1 → x ≡ get_or ms k x → hashed_of m ≡ hashed_of x → done ≡ set heads (bucket (length heads) x.hash) n
    → (0 < length heads → m.older ≡ get_or heads (bucket (length heads) x.hash) 0) → after ≡ set ms k m
    → 0 < length done → IsChained done (buckets_of (length done) after) (olders_of after) n
chain_step heads done ms after x m k n h l next is hashed_suffix linked o made some =
    let size = length heads in
    let at = bucket size x.hash in
    let long : length done ≡ size = ap length linked ∙ length-set heads at n in
    let there : 0 < size = omega arith in
    let z : suc k ≡ n = omega arith in
    let here : at ≡ get_or (buckets_of size ms) k 0 = ap (λ (y : Fingerprint). bucket size y.hash) is ∙ sym (get_or-map (λ (y : Fingerprint). bucket size y.hash) ms k x 0 l) in
    let buckets : buckets_of size ms ≡ buckets_of size after = sym
    (ap (buckets_of size) made ∙ map-set_same (λ (y : Fingerprint). bucket size y.hash) ms k m x
    (ap (λ (y : FingerprintEntry). bucket size y.hash) hashed_suffix ∙ ap (λ (y : Fingerprint). bucket size y.hash) is)) in
    chained_same _ _ _ _ _ _ _ _ (ap (set heads at) z ∙ sym linked) (buckets ∙ ap (λ s. buckets_of s after) (sym long)) (sym (ap olders_of made ∙ map-set (λ (y : Fingerprint). y.older) ms k m)) z
    (link heads (buckets_of size ms) (set (olders_of ms) k m.older) k at (chained_set heads (buckets_of size ms) (olders_of ms) k m.older (h there)) here (bucket_in size x.hash there)
    (get_or-set_same (olders_of ms) k m.older 0 (omega (arith, length-olders ms)) ∙ o there))

-- which leaves hashes, offsets and ends as they were
pub hashed_same : (ms after : List Fingerprint) (x m : Fingerprint) (k : ℕ) → x ≡ get_or ms k x → hashed_of m ≡ hashed_of x → after ≡ set ms k m → all_hashed_of after ≡ all_hashed_of ms
hashed_same ms after x m k is hashed_suffix made = ap all_hashed_of made ∙ ap reverse (map-set_same hashed_of ms k m x (hashed_suffix ∙ ap hashed_of is))

-- an entry that is read twice is the same
pub read_twice : (ms : List Fingerprint) (k : ℕ) (x y : Fingerprint) → k < length ms → x ≡ get_or ms k x → y ≡ get_or ms k y → x ≡ y
read_twice ms k x y l a b = a ∙ get_or_default ms k x y l ∙ sym b

-- at first all entries remain
pub sought_start : (b : List ℕ) (xs : List FingerprintEntry) (n : Labels) (ms : List Fingerprint) → all_hashed_of ms ≡ xs
    → AreNamesAt b (table_entries_at xs) → AreHashed b xs → IsSuffixSought b (table_in b (table_entries_at xs)) n ms (length ms)
sought_start b xs n ms e names_at hashed =
    let all : xs ≡ all_hashed_of (take (length ms) ms) = sym (ap all_hashed_of (take_all (length ms) ms (omega arith)) ∙ e) in
    record {
      within = omega arith;
      hashed = subst (λ (ys : List FingerprintEntry). AreHashed b ys) all hashed;
      sought = subst (λ (ys : List FingerprintEntry). IsSought b (table_in b (table_entries_at xs)) n (table_entries_at ys)) all (record { names_at = names_at; same = refl });
    }

no_hash_entry : Fingerprint
no_hash_entry = record { hash = 0; offset = 0; end = 0; older = 0 }

-- entries in other buckets aren't the name's
others_skip : (b : List ℕ) (m : CompressionTable) (n : Labels) (ms : List Fingerprint) (size hash : ℕ) → hash ≡ hash_of n
    → SkipsOthers (IsSuffixSought b m n ms) (buckets_of size ms) (bucket size hash) (length ms)
others_skip b m n ms size hash e j l other h =
    let x = get_or ms j no_hash_entry in
    let k : suc j ≡ j + 1 = omega arith in
    let last = looked_at b m n ms (suc j) j x k h (get_or_default ms j no_hash_entry x l) in
    sought_other b m n ms j (hashed_of x) last (other_hash b m n ms j hash (hashed_of x) last e
    (λ q. other (get_or-map (λ (y : Fingerprint). bucket size y.hash) ms j no_hash_entry 0 l ∙ ap (bucket size) q)))

-- a walk along the bucket of a hash
abbrev pub IsBucketWalked : List ℕ → List ℕ → CompressionTable → Labels → List Fingerprint → ℕ → ℕ → Type 0
IsBucketWalked heads b m n ms hash t = IsWalked (IsSuffixSought b m n ms) (buckets_of (length heads) ms) (bucket (length heads) hash) t

-- the walk begins at the newest entry
pub bucket_start : (b : List ℕ) (xs : List FingerprintEntry) (n : Labels) (heads : List ℕ) (ms : List Fingerprint) (hash size first : ℕ) → IsLinked heads ms → 0 < length heads
    → all_hashed_of ms ≡ xs → AreNamesAt b (table_entries_at xs) → AreHashed b xs → hash ≡ hash_of n → size ≡ length heads → first ≡ get_or heads (bit_and hash (size - 1)) first
    → IsBucketWalked heads b (table_in b (table_entries_at xs)) n ms hash first
bucket_start b xs n heads ms hash size first h some e names_at hashed is count found =
    let inside = bucket_in (length heads) hash some in
    walk_start (IsSuffixSought b (table_in b (table_entries_at xs)) n ms) heads (buckets_of (length heads) ms) (olders_of ms) (length ms) (bucket (length heads) hash) first (h some) inside
    (others_skip b (table_in b (table_entries_at xs)) n ms (length heads) hash is) (sought_start b xs n ms e names_at hashed)
    (found ∙ ap (λ (s : ℕ). get_or heads (bucket s hash) first) count ∙ get_or_default heads (bucket (length heads) hash) first 0 inside)

older_is : (ms : List Fingerprint) (x : Fingerprint) (k : ℕ) → k < length ms → x ≡ get_or ms k x → x.older ≡ get_or (olders_of ms) k 0
older_is ms x k l is = ap (λ (y : Fingerprint). y.older) is ∙ sym (get_or-map (λ (y : Fingerprint). y.older) ms k x 0 l)

-- it goes on to the next older entry in the bucket
pub bucket_next : (heads : List ℕ) (b : List ℕ) (m : CompressionTable) (n : Labels) (ms : List Fingerprint) (x : Fingerprint) (hash t k : ℕ) → IsLinked heads ms → 0 < length heads
    → t ≡ k + 1 → IsBucketWalked heads b m n ms hash t → x ≡ get_or ms k x → IsSuffixSought b m n ms k → hash ≡ hash_of n → IsBucketWalked heads b m n ms hash x.older
bucket_next heads b m n ms x hash t k h some e w is on hashed =
    let l : k < length ms = let z = w.sought.within in omega arith in
    let size = length heads in
    walk_next (IsSuffixSought b m n ms) heads (buckets_of size ms) (olders_of ms) (length ms) (bucket size hash) k x.older (h some) l
    (others_skip b m n ms size hash hashed) (w.same k (omega arith)) on (older_is ms x k l is)

-- a link leads to an older entry
pub bucket_older-le : (heads : List ℕ) (ms : List Fingerprint) (x : Fingerprint) (k : ℕ) → IsLinked heads ms → 0 < length heads → k < length ms → x ≡ get_or ms k x → x.older ≤ k
bucket_older-le heads ms x k h some l is = let z = older-le heads (buckets_of (length heads) ms) (olders_of ms) (length ms) k (h some) l in let y = older_is ms x k l is in omega arith
