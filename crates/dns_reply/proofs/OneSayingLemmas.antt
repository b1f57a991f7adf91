-- A reply says one thing.
use Rattle.std.proofs.Common.{◌≡◌, ◌∙◌, ◌⊎◌, ◌<◌, inl, inr, ℕ, Bool, true, false, List, ap, sym, subst, refl, arith}
use Rattle.std.specs.Prelude.{◌&&◌, ◌||◌, min, Option, Some, None, unwrap_or}
use Rattle.dns_name.specs.Names.{Fault, Labels}
use Rattle.dns_item.specs.Items.{RecordItem}
use Rattle.dns_item.specs.Questions.{QuestionItem}
use Rattle.dns_read.specs.Limited.{limited}
use Rattle.dns_read.specs.OptSearches.{opt_rcode_of}
use Rattle.dns_read.specs.SectionStarts.{records_of}
use Rattle.dns_read.specs.StartOrFault.{start_or_fault}
use Rattle.dns_read.specs.declared.section.Section.TheVariants as sections
use Rattle.dns_reply.specs.Chains.{ChainEnds, ttl_of_aliases}
use Rattle.dns_reply.specs.Laws.{OneSaying}
use Rattle.dns_reply.specs.Owners.{asks_for_class, is_within, is_below, is_owned_by_cut, is_owned_by_related}
use Rattle.dns_reply.specs.Records.{Records, IsReadable, IsUnreadable, has_ns, negative_ttl, ns_for, ns_layout, opt_count, target_in, values}
use Rattle.dns_reply.specs.Records.IsUnreadable.{before, within}
use Rattle.dns_reply.specs.Said.{Said}
use Rattle.dns_reply.specs.Said.Said.{NoData, NoName, Referred, Aliased, Redirected, Unreadable, Looping, Lame}
use Rattle.dns_reply.specs.Sayings.{IsNoError, IsNameError, IsSound, Says, SaysAt, SaysNone, SaysOf, SaysTo}
use Rattle.dns_reply.specs.Sayings.SaysNone.{no_name, no_data, no_authority, referral, lame}
use Rattle.dns_reply.specs.Sayings.SaysAt.{answer, dname, none}
use Rattle.dns_reply.specs.Sayings.SaysOf.{loop, alias, named}
use Rattle.dns_reply.specs.Sayings.SaysTo.{unreadable, many_opts, failed, records}
use Rattle.dns_reply.specs.Sayings.Says.{truncated, done, refused, asked}
use Rattle.dns_reply.proofs.ChainLemmas.{one_end}
use Rattle.dns_reply.proofs.FoundLemmas.{any_found, found_passes}

-- an RCODE is one number
zero_or_three : {A : Type 0} (rcode : ℕ) → IsNoError rcode → IsNameError rcode → A
zero_or_three rcode e f = absurd (omega (arith, e, f))

-- the first or another test, and the last of three tests pass
outer_pass : (x y z other : Bool) → (x && y && z) ≡ true → ((x || other) && z) ≡ true
outer_pass true true z other e = e
outer_pass true false z other e = absurd (cc)
outer_pass false y z other e = absurd (cc)

-- what isn't there isn't found
missing : {A : Type 0} {X : Type 0} {o : Option X} {x : X} → o ≡ Some x → o ≡ None → A
missing here gone = absurd (let e = sym here ∙ gone in cc)

-- a test has one result
two_ways : {A : Type 0} {b : Bool} → b ≡ true → b ≡ false → A
two_ways passes fails = absurd (let e = sym passes ∙ fails in cc)

module _ (authorities : Records) (rcode qclass : ℕ) (zone name : Labels) (aliases : Option ℕ) where
  -- if NS records delegate the name, there are NS records
  has_delegation : (ns : RecordItem) → ns_for qclass zone authorities name ≡ Some ns → has_ns qclass zone authorities name ≡ true
  has_delegation ns e =
      let found = found_passes (is_owned_by_cut qclass zone name) (values (limited ns_layout authorities)) ns e in
      let fits = outer_pass (is_within name ns.owner) (is_below ns.owner zone) (asks_for_class qclass ns.class) (is_within ns.owner zone) found.passes in
      any_found (is_owned_by_related qclass zone name) (values (limited ns_layout authorities)) ns found.among fits

  -- a name that owns nothing: one thing is said
  none_alike : (x y : Said) → SaysNone authorities rcode qclass zone name aliases x → SaysNone authorities rcode qclass zone name aliases y → x ≡ y
  none_alike x y (no_name soa e s) (no_name other f t) = ap (λ (o : Option RecordItem). NoName name o (negative_ttl o) aliases) (sym s ∙ t)
  none_alike x y (no_name soa e t) (no_data other f s) = zero_or_three rcode f e
  none_alike x y (no_name soa e t) (no_authority f s n) = zero_or_three rcode f e
  none_alike x y (no_name soa e t) (referral ns f s n) = zero_or_three rcode f e
  none_alike x y (no_name soa e t) (lame f s n d a) = zero_or_three rcode f e
  none_alike x y (no_data soa f s) (no_name other e t) = zero_or_three rcode f e
  none_alike x y (no_data soa f s) (no_data other g t) = ap (λ (o : Option RecordItem). NoData name o (negative_ttl o) aliases) (sym s ∙ t)
  none_alike x y (no_data soa f s) (no_authority g t n) = missing s t
  none_alike x y (no_data soa f s) (referral ns g t n) = missing s t
  none_alike x y (no_data soa f s) (lame g t n d a) = missing s t
  none_alike x y (no_authority f s n) (no_name other e t) = zero_or_three rcode f e
  none_alike x y (no_authority f s n) (no_data soa g t) = missing t s
  none_alike x y (no_authority f s n) (no_authority g t m) = refl
  none_alike x y (no_authority f s (inl n)) (referral ns g t d) = two_ways (has_delegation ns d) n
  none_alike x y (no_authority f s (inr w)) (referral ns g t d) = missing d w.1
  none_alike x y (no_authority f s (inl n)) (lame g t m d a) = two_ways m n
  none_alike x y (no_authority f s (inr w)) (lame g t m d a) = two_ways w.0 a
  none_alike x y (referral ns f s d) (no_name other e t) = zero_or_three rcode f e
  none_alike x y (referral ns f s d) (no_data soa g t) = missing t s
  none_alike x y (referral ns f s d) (no_authority g t (inl n)) = two_ways (has_delegation ns d) n
  none_alike x y (referral ns f s d) (no_authority g t (inr w)) = missing d w.1
  none_alike x y (referral ns f s d) (referral other g t k) = let same : ns ≡ other = (let e = sym d ∙ k in cc) in ap (λ (r : RecordItem). Referred name r.owner aliases) same
  none_alike x y (referral ns f s d) (lame g t n k a) = missing d k
  none_alike x y (lame f s n d a) (no_name other e t) = zero_or_three rcode f e
  none_alike x y (lame f s n d a) (no_data soa g t) = missing t s
  none_alike x y (lame f s n d a) (no_authority g t (inl m)) = two_ways n m
  none_alike x y (lame f s n d a) (no_authority g t (inr w)) = two_ways w.0 a
  none_alike x y (lame f s n d a) (referral ns g t k) = missing k d
  none_alike x y (lame f s n d a) (lame g t m k c) = refl

module _ (answers authorities : Records) (rcode : ℕ) (zone : Labels) (q : QuestionItem) where
  -- what is said of a DNAME record, if it has a target
  abbrev redirects : Labels → ℕ → RecordItem → Option Labels → Said
  redirects name ttl x None = Lame
  redirects name ttl x (Some target) = Redirected name x.owner target (min ttl x.ttl)

  one_redirection : (name : Labels) (ttl : ℕ) (x y : RecordItem) (s t : Labels) → x ≡ y → target_in x.parts ≡ Some s → target_in y.parts ≡ Some t
      → Redirected name x.owner s (min ttl x.ttl) ≡ Redirected name y.owner t (min ttl y.ttl)
  one_redirection name ttl x y s t same e f =
      sym (ap (redirects name ttl x) e) ∙ ap (λ (r : RecordItem). redirects name ttl r (target_in r.parts)) same ∙ ap (redirects name ttl y) f

  -- one thing is said of a name
  at_alike : (name : Labels) (ttl : ℕ) (x y : Said) → SaysAt answers authorities rcode zone q name ttl x → SaysAt answers authorities rcode zone q name ttl y → x ≡ y
  at_alike name ttl x y (answer e o) (answer f p) = refl
  at_alike name ttl x y (answer e o) (dname r target h d t) = two_ways o (h e)
  at_alike name ttl x y (answer e o) (none h d n) = two_ways o (h e)
  at_alike name ttl x y (dname r target h d t) (answer e o) = two_ways o (h e)
  at_alike name ttl x y (dname r target h d t) (dname s other k g u) = let same : r ≡ s = (let e = sym d ∙ g in cc) in one_redirection name ttl r s target other same t u
  at_alike name ttl x y (dname r target h d t) (none k g n) = missing d g
  at_alike name ttl x y (none h d n) (answer e o) = two_ways o (h e)
  at_alike name ttl x y (none h d n) (dname s other k g u) = missing g d
  at_alike name ttl x y (none h d n) (none k g m) = none_alike authorities rcode q.class zone name (ttl_of_aliases q name ttl) x y n m

  -- what is said of the end of a chain that leads out of the zone
  abbrev alias_said : Option (Labels × ℕ) → Said
  alias_said None = Looping
  alias_said (Some x) = Aliased x.0 (unwrap_or (ttl_of_aliases q x.0 x.1) 0)

  -- two ends of a chain are the same
  same_end : (x y : Option (Labels × ℕ)) → ChainEnds zone q answers x → ChainEnds zone q answers y → x ≡ y
  same_end = one_end zone q answers

  same_pair : (x y : Labels × ℕ) → ChainEnds zone q answers (Some x) → ChainEnds zone q answers (Some y) → x ≡ y
  same_pair x y c d = let e = same_end (Some x) (Some y) c d in cc

  same_name : (x y : Labels × ℕ) → ChainEnds zone q answers (Some x) → ChainEnds zone q answers (Some y) → x.0 ≡ y.0
  same_name x y c d = ap (λ (p : Labels × ℕ). p.0) (same_pair x y c d)

  same_ttl : (x y : Labels × ℕ) → ChainEnds zone q answers (Some x) → ChainEnds zone q answers (Some y) → x.1 ≡ y.1
  same_ttl x y c d = ap (λ (p : Labels × ℕ). p.1) (same_pair x y c d)

  -- one thing is said of a question
  of_alike : (x y : Said) → SaysOf answers authorities rcode zone q x → SaysOf answers authorities rcode zone q y → x ≡ y
  of_alike x y (loop c) (loop d) = refl
  of_alike x y (loop c) (alias name ttl d o) = missing refl (same_end (Some (name, ttl)) None d c)
  of_alike x y (loop c) (named name ttl d i s) = missing refl (same_end (Some (name, ttl)) None d c)
  of_alike x y (alias name ttl d o) (loop c) = missing refl (same_end (Some (name, ttl)) None d c)
  of_alike x y (alias name ttl d o) (alias other seconds c p) = ap alias_said (same_end (Some (name, ttl)) (Some (other, seconds)) d c)
  of_alike x y (alias name ttl d o) (named other seconds c i s) =
      two_ways i (subst (λ n. is_within n zone ≡ false) (same_name (name, ttl) (other, seconds) d c) o)
  of_alike x y (named name ttl d i s) (loop c) = missing refl (same_end (Some (name, ttl)) None d c)
  of_alike x y (named name ttl d i s) (alias other seconds c o) =
      two_ways (subst (λ n. is_within n zone ≡ true) (same_name (name, ttl) (other, seconds) d c) i) o
  of_alike x y (named name ttl d i s) (named other seconds c j t) =
      let same = same_name (name, ttl) (other, seconds) d c in
      let least = same_ttl (name, ttl) (other, seconds) d c in
      at_alike other seconds x y (subst (λ n. SaysAt answers authorities rcode zone q other n x) least (subst (λ n. SaysAt answers authorities rcode zone q n ttl x) same s)) t

module _ (b : List ℕ) where
  -- a message is unreadable for one fault
  one_fault : (f g : Fault) → IsUnreadable b f → IsUnreadable b g → f ≡ g
  one_fault f g (before h) (before k) = (start_or_fault.additionals b).one_fault f g h k
  one_fault f g (before h) (within p s e) = absurd ((start_or_fault.additionals b).not_both p f s h)
  one_fault f g (within p s e) (before k) = absurd ((start_or_fault.additionals b).not_both p g s k)
  one_fault f g (within p s e) (within r t d) = let same = sym e ∙ d in cc

  -- a message that is readable isn't unreadable
  not_unreadable : {A : Type 0} (f : Fault) → IsReadable b → IsUnreadable b f → A
  not_unreadable f is (before h) = absurd ((start_or_fault.additionals b).not_both is.start f is.starts h)
  not_unreadable f is (within p s e) = missing e is.readable

  -- the RCODE of a message that says something of a name isn't another one
  no_failure : {A : Type 0} → (IsNoError (opt_rcode_of b) → ⊥) → (IsNameError (opt_rcode_of b) → ⊥) → IsNoError (opt_rcode_of b) ⊎ IsNameError (opt_rcode_of b) → A
  no_failure other asks (inl e) = absurd (other e)
  no_failure other asks (inr e) = absurd (asks e)

  -- there isn't one OPT record and more than one
  one_opt_alone : {A : Type 0} → IsSound b → 1 < opt_count b → A
  one_opt_alone s n = let one = s.one_opt in absurd (omega (arith, n, one))

  to_alike : (zone : Labels) (q : QuestionItem) (x y : Said) → SaysTo b zone q x → SaysTo b zone q y → x ≡ y
  to_alike zone q x y (unreadable {f = v} h) (unreadable {f = w} k) = ap Unreadable (one_fault v w h k)
  to_alike zone q x y (unreadable {f = v} h) (many_opts k n) = not_unreadable v k h
  to_alike zone q x y (unreadable {f = v} h) (failed s r t) = not_unreadable v s.readable h
  to_alike zone q x y (unreadable {f = v} h) (records s r o) = not_unreadable v s.readable h
  to_alike zone q x y (many_opts h n) (unreadable {f = w} k) = not_unreadable w h k
  to_alike zone q x y (many_opts h n) (many_opts k m) = refl
  to_alike zone q x y (many_opts h n) (failed s r t) = one_opt_alone s n
  to_alike zone q x y (many_opts h n) (records s r o) = one_opt_alone s n
  to_alike zone q x y (failed s r t) (unreadable {f = w} k) = not_unreadable w s.readable k
  to_alike zone q x y (failed s r t) (many_opts k m) = one_opt_alone s m
  to_alike zone q x y (failed s r t) (failed u v w) = refl
  to_alike zone q x y (failed s r t) (records u v o) = no_failure r t v
  to_alike zone q x y (records s r o) (unreadable {f = w} k) = not_unreadable w s.readable k
  to_alike zone q x y (records s r o) (many_opts k m) = one_opt_alone s m
  to_alike zone q x y (records s r o) (failed u v w) = no_failure v w r
  to_alike zone q x y (records s r o) (records u v p) = of_alike (records_of sections.Answer b) (records_of sections.Authority b) (opt_rcode_of b) zone q x y o p

  says_alike : (zone : Labels) (x y : Said) → Says b zone x → Says b zone y → x ≡ y
  says_alike zone x y (truncated e) (truncated f) = refl
  says_alike zone x y (truncated e) (done f n r) = two_ways e f
  says_alike zone x y (truncated e) (refused f n r) = two_ways e f
  says_alike zone x y (truncated e) (asked f n o) = two_ways e f
  says_alike zone x y (done f n r) (truncated e) = two_ways e f
  says_alike zone x y (done f n r) (done g m t) = refl
  says_alike zone x y (done f n r) (refused g m t) = absurd (t r)
  says_alike zone x y (done f n r) (asked g m o) = missing m n
  says_alike zone x y (refused f n r) (truncated e) = two_ways e f
  says_alike zone x y (refused f n r) (done g m t) = absurd (r t)
  says_alike zone x y (refused f n r) (refused g m t) = refl
  says_alike zone x y (refused f n r) (asked g m o) = missing m n
  says_alike zone x y (asked f n o) (truncated e) = two_ways e f
  says_alike zone x y (asked f n o) (done g m t) = missing n m
  says_alike zone x y (asked f n o) (refused g m t) = missing n m
  says_alike zone x y (asked {q = q} f n o) (asked {q = p} g m v) =
      let same : q ≡ p = (let e = sym n ∙ m in cc) in
      to_alike zone p x y (subst (λ (z : QuestionItem). SaysTo b zone z x) same o) v

-- A reply says one thing about a zone.
pub one_saying : OneSaying
one_saying = says_alike
