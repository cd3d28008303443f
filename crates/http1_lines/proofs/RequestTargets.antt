-- The target of a request line: its judges by what the code finds, and what a good one is.
use Rattle.std.proofs.Common.{Err, Ok, Result}
use Prim.Native.Nat.{ℕ, ◌+◌, ◌-◌, ◌<◌, ◌≤◌, min}
use mathlib.Core.Path.{◌≡◌, refl, sym, ap, ◌∙◌}
use mathlib.Core.Bool.{Bool, true, false, cond}
use mathlib.Core.Logic.{◌⊎◌, inl, inr}
use mathlib.Core.List.{List, [], ◌∷◌, ◌++◌, map}
use native.Mathlib.Omega.{arith}
use borrow.Author.Tests.{eq-eqb, ne_eqb, le-leb, lt-leb, eqb-true, leb-true}
use lib.Dec.{leb, eqb}
use lib.ListN.{length, get_or, take, drop, length-drop, length-take, length-map}
use lib.Seq.{get_or-drop, take-length}
use Rattle.octets.specs.Ascii.{ascii}
use Rattle.octets.specs.Class.{is_token, is_value, is_path, is_authority, class_of, has_class, path}
use Rattle.octets.specs.Text.{span_len, all, lower_of, same_text, is_empty}
use Rattle.octets.specs.Limits.{path_most}
use Rattle.octets.proofs.Kit.{past, into, no_true}
use Rattle.octets.proofs.Texts.{some, not-empty, same_length, same-eq, span-within, all_drop, part-all, span-step, span-end}
use Rattle.messages.specs.Control.{asterisk_verdict, path_verdict, is_host, Verdict, passed}
use Rattle.messages.specs.Message.{prefix_octets}
use Rattle.messages.specs.declared.PathPrefix.{PathPrefix}
use Rattle.messages.specs.declared.PathPrefix.TheVariants as prefix
use Rattle.messages.proofs.Verdicts.{path-rule, behind_good}
use Rattle.http1_lines.specs.Target.{path_alone, plain_target, starts_with, scheme_len, scheme_number, is_before_path, prefix_of, absolute_path, absolute_target, target_of}
use Rattle.http1_lines.specs.declared.Target.{Target}
use Rattle.octets.specs.declared.Refusal.{Refusal}
use Rattle.octets.specs.declared.Refusal.TheVariants as refusal

-- ---- what the code finds

module _ (scheme w : List ℕ) where
  lowered : length (map lower_of (take (length scheme) w)) ≡ min (length scheme) (length w)
  lowered = length-map (take (length scheme) w) lower_of ∙ length-take (length scheme) w

  pub starts-short : length w < length scheme → false ≡ starts_with scheme w
  unfolding starts_with
  starts-short h = sym (same_length (map lower_of (take (length scheme) w)) scheme (λ e. omega (arith, lowered)))

  pub starts-long : starts_with scheme w ≡ true → length scheme ≤ length w
  unfolding starts_with
  starts-long e = let q = ap length (same-eq (map lower_of (take (length scheme) w)) scheme e) in omega (arith, lowered)

module _ (w : List ℕ) where
  pub scheme-http : {r : Bool} → r ≡ starts_with (ascii "http://") w → r ≡ true → (7 ≡ scheme_len w) × (7 ≤ length w)
  unfolding scheme_len
  scheme-http e t = let q : starts_with (ascii "http://") w ≡ true = sym e ∙ t in (rw q, starts-long (ascii "http://") w q)

  module _ {r : Bool} (e : r ≡ starts_with (ascii "http://") w) (f : r ≡ false) {s : Bool} (d : s ≡ starts_with (ascii "https://") w) where
    pub scheme-https : s ≡ true → (8 ≡ scheme_len w) × (8 ≤ length w)
    unfolding scheme_len
    scheme-https t =
        let p : starts_with (ascii "http://") w ≡ false = sym e ∙ f in
        let q : starts_with (ascii "https://") w ≡ true = sym d ∙ t in
        (rw (p, q), starts-long (ascii "https://") w q)

    pub scheme-none : s ≡ false → 0 ≡ scheme_len w
    unfolding scheme_len
    scheme-none t = let p : starts_with (ascii "http://") w ≡ false = sym e ∙ f in let q : starts_with (ascii "https://") w ≡ false = sym d ∙ t in rw (p, q)

-- turns of the loop that looks for the end of an authority, from the place `from` on
module _ (w : List ℕ) (from i : ℕ) (inv : from + span_len is_before_path (drop from w) ≡ i + span_len is_before_path (drop i w)) where
  pub authority-here : i < length w → is_before_path (get_or w i 0) ≡ false → i ≡ from + span_len is_before_path (drop from w)
  authority-here h e = sym (inv ∙ span-step is_before_path w i h ∙ rw e)

  pub authority-on : i < length w → is_before_path (get_or w i 0) ≡ true → from + span_len is_before_path (drop from w) ≡ i + 1 + span_len is_before_path (drop (i + 1) w)
  authority-on h e = inv ∙ span-step is_before_path w i h ∙ rw e

  pub authority-all : length w ≤ i → i ≡ from + span_len is_before_path (drop from w)
  authority-all h = sym (inv ∙ span-end is_before_path w i h)

module _ (options : Bool) (w : List ℕ) (e : ℕ) where
  module _ (h : e < length w) where
    own-some : is_empty (drop e w) ≡ false
    own-some = not-empty (drop e w) (omega (arith, length-drop e w))

    own_first : get_or (drop e w) 0 0 ≡ get_or w e 0
    own_first = get_or-drop e w 0 0 ∙ ap (λ (k : ℕ). get_or w k 0) (omega arith)

    pub prefix-nothing : get_or w e 0 ≡ 47 → prefix.Nothing ≡ prefix_of options (drop e w)
    unfolding prefix_of
    prefix-nothing q = rw (own-some, own_first, eq-eqb _ _ q)

    pub prefix-query : (get_or w e 0 ≡ 47 → ⊥) → prefix.Slash ≡ prefix_of options (drop e w)
    unfolding prefix_of
    prefix-query q = rw (own-some, own_first, ne_eqb _ _ q)

  module _ (h : length w ≤ e) where
    own-none : is_empty (drop e w) ≡ true
    unfolding is_empty
    own-none = eq-eqb (length (drop e w)) 0 (omega (arith, length-drop e w))

    pub prefix-asterisk : options ≡ true → prefix.Asterisk ≡ prefix_of options (drop e w)
    unfolding prefix_of
    prefix-asterisk q = rw (own-none, q)

    pub prefix-slash : options ≡ false → prefix.Slash ≡ prefix_of options (drop e w)
    unfolding prefix_of
    prefix-slash q = rw (own-none, q)

module _ (scheme : ℕ) (options : Bool) (w : List ℕ) (k e : ℕ) {p : PathPrefix} (q : p ≡ prefix_of options (drop e w)) {n : ℕ} (l : n ≡ length (prefix_octets p)) where
  size_is : (length (prefix_octets (prefix_of options (drop e w))) + (length w - e)) ≡ n + (length w - e)
  size_is = rw (← q, ← l)

  module _ (h : length w - e ≤ path_most - n) (f : n ≤ 1) where
    fits : n + (length w - e) ≤ path_most
    fits = omega arith

    pub absolute-good : k - 7 ≡ scheme → Ok (record { prefix = p; start = e; len = length w - e; host = k; hostlen = e - k }) ≡ absolute_path scheme options w k e
    unfolding absolute_path
    absolute-good s = rw (← q, ← l, le-leb _ _ fits, eq-eqb _ _ s)

    pub absolute-scheme : (k - 7 ≡ scheme → ⊥) → Err refusal.OtherScheme ≡ absolute_path scheme options w k e
    unfolding absolute_path
    absolute-scheme s = rw (← q, ← l, le-leb _ _ fits, ne_eqb _ _ s)

  pub absolute-large : path_most - n < length w - e → n ≤ 1 → Err refusal.TooLarge ≡ absolute_path scheme options w k e
  unfolding absolute_path
  absolute-large h f = let g : path_most < n + (length w - e) = omega arith in rw (← q, ← l, lt-leb _ _ g)

module _ (options : Bool) (w : List ℕ) {x : Verdict} (e : x ≡ path_verdict options w) where
  pub plain-good : {u : Unit {0}} {n : ℕ} → x ≡ Ok u → n ≡ length w → Ok (path_alone n) ≡ plain_target options w
  unfolding plain_target
  plain-good h l = rw (← e, h) (ap (λ (k : ℕ). Ok (path_alone k)) l)

  pub plain-bad : {r : Refusal} → x ≡ Err r → Err r ≡ plain_target options w
  unfolding plain_target
  plain-bad h = rw (← e, h)

module _ (scheme : ℕ) (options : Bool) (w : List ℕ) (k : ℕ) {a : Bool} (c : a ≡ all (has_class path) w) where
  pub absolute-octets : a ≡ false → Err refusal.BadSyntax ≡ absolute_target scheme options w k
  unfolding absolute_target
  absolute-octets h = rw (← c, h)

  module _ (h : a ≡ true) {e : ℕ} (q : e ≡ k + span_len is_before_path (drop k w)) {r : Bool} (i : r ≡ is_host (take (e - k) (drop k w))) where
    authority-is : is_host (take (span_len is_before_path (drop k w)) (drop k w)) ≡ r
    authority-is = let f : e - k ≡ span_len is_before_path (drop k w) = omega arith in rw (← f) (sym i)

    pub absolute-host : r ≡ false → Err refusal.BadHost ≡ absolute_target scheme options w k
    unfolding absolute_target
    absolute-host g = rw (← c, h, authority-is, g)

    pub absolute-on : {z : Result Target Refusal} → r ≡ true → z ≡ absolute_path scheme options w k e → z ≡ absolute_target scheme options w k
    unfolding absolute_target
    absolute-on g y = rw (← c, h, authority-is, g) (rw q at y)

module _ (scheme : ℕ) (options : Bool) (w : List ℕ) {k : ℕ} (e : k ≡ scheme_len w) where
  pub target-plain : {z : Result Target Refusal} → k ≡ 0 → z ≡ plain_target options w → z ≡ target_of scheme options w
  unfolding target_of
  target-plain h y = rw (← e, eq-eqb _ _ h) y

  pub target-absolute : {z : Result Target Refusal} → (k ≡ 0 → ⊥) → z ≡ absolute_target scheme options w k → z ≡ target_of scheme options w
  unfolding target_of
  target-absolute h y = rw (← e, ne_eqb _ _ h) y

-- a scheme takes seven octets at least
pub scheme-some : (w : List ℕ) {k : ℕ} → k ≡ scheme_len w → (k ≡ 0 → ⊥) → 7 ≤ k
unfolding scheme_len
scheme-some w {k} e h = pick (starts_with (ascii "http://") w) (starts_with (ascii "https://") w) e
  where
    pick : (a b : Bool) → k ≡ cond a 7 (cond b 8 0) → 7 ≤ k
    pick true b q = omega arith
    pick false true q = omega arith
    pick false false q = absurd (h q)

-- ---- what a good target is

-- its parts lie in it, its path passes the rule of paths, and its authority, if it has one, names a host and ends where the path begins
pub record TargetView (options : Bool) (w : List ℕ) (x : Target) : Type 0 where
  pub some : 1 ≤ length w
  pub size : x.start + x.len ≡ length w
  pub path : path_verdict options (prefix_octets x.prefix ++ take x.len (drop x.start w)) ≡ passed
  pub within : x.host + x.hostlen ≤ length w
  pub host : (x.hostlen ≡ 0) ⊎ ((is_host (take x.hostlen (drop x.host w)) ≡ true) × (x.host + x.hostlen ≡ x.start))

no_target : {n : Refusal} {x : Target} → Err n ≡ Ok x → ⊥
no_target e = let z : ◌≡◌ {A = ℕ} 0 1 = cc in omega arith

of-target : (x y : Target) → ◌≡◌ {A = Result Target Refusal} (Ok x) (Ok y) → x ≡ y
of-target x y e = cc

plain-view : (options : Bool) (w : List ℕ) (x : Target) → plain_target options w ≡ Ok x → TargetView options w x
unfolding plain_target
plain-view options w x e =
    let p = behind_good (path_verdict options w) _ e in
    let g : path_verdict options w ≡ passed = p.0 in
    let made : TargetView options w (path_alone (length w)) = record {
      some = (path-rule options w g).0;
      size = omega arith;
      path = rw (take-length w) g;
      within = omega arith;
      host = inl refl;
    } in
    rw (of-target (path_alone (length w)) x p.1) at made

-- a path that begins with a slash
slash-good : (options : Bool) (p : List ℕ) → 1 ≤ length p → get_or p 0 0 ≡ 47 → all (has_class path) p ≡ true → length p ≤ path_most → path_verdict options p ≡ passed
unfolding path_verdict
slash-good options p h f c l = rw (not-empty p h, eq-eqb _ _ f, c, le-leb _ _ l)

-- with what is put before it, any path of an absolute target that is not too long is good
prefixed-good : (options : Bool) (w : List ℕ) → all (has_class path) w ≡ true → length (prefix_octets (prefix_of options w)) + length w ≤ path_most
    → path_verdict options (prefix_octets (prefix_of options w) ++ w) ≡ passed
unfolding prefix_of is_empty all is_token is_value is_path is_authority class_of has_class path_verdict asterisk_verdict same_text
prefixed-good true [] c l = refl
prefixed-good false [] c l = refl
prefixed-good options (b ∷ w) c l = rw (some_first) (pick (eqb b 47) refl (rw some_first at l))
  where
    some_first : eqb (length (b ∷ w)) 0 ≡ false
    some_first = ne_eqb (length (b ∷ w)) 0 (λ e. omega arith)

    pick : (t : Bool) → eqb b 47 ≡ t → length (prefix_octets (cond t prefix.Nothing prefix.Slash)) + length (b ∷ w) ≤ path_most
        → path_verdict options (prefix_octets (cond t prefix.Nothing prefix.Slash) ++ b ∷ w) ≡ passed
    pick true e h = slash-good options (b ∷ w) (omega arith) (eqb-true b 47 e) c (omega arith)
    pick false e h = slash-good options (47 ∷ b ∷ w) (omega arith) refl c (omega arith)

host-some : (a : List ℕ) → is_host a ≡ true → 1 ≤ length a
unfolding is_host
host-some a e = some a (past no_true (is_empty a) _ e).0

absolute-view : (scheme : ℕ) (options : Bool) (w : List ℕ) (k : ℕ) (x : Target) → absolute_target scheme options w k ≡ Ok x → TargetView options w x
unfolding absolute_target absolute_path
absolute-view scheme options w k x q =
    let a : ℕ = span_len is_before_path (drop k w) in
    let e : ℕ = k + a in
    let p1 = into no_target (all (has_class path) w) _ q in
    let p2 = into no_target (is_host (take a (drop k w))) _ p1.1 in
    let p3 = into no_target (leb (length (prefix_octets (prefix_of options (drop e w))) + (length w - e)) path_most) _ p2.1 in
    let p4 = into no_target (eqb (scheme_number k) scheme) _ p3.1 in
    let l1 : a ≤ length (drop k w) = span-within is_before_path (drop k w) in
    let l2 : length (drop k w) ≡ length w - k = length-drop k w in
    let l3 : 1 ≤ length (take a (drop k w)) = host-some (take a (drop k w)) p2.0 in
    let l4 : length (take a (drop k w)) ≡ min a (length (drop k w)) = length-take a (drop k w) in
    let l5 : e ≤ length w = omega arith in
    let l6 : length (drop e w) ≡ length w - e = length-drop e w in
    let l7 : length (prefix_octets (prefix_of options (drop e w))) + (length w - e) ≤ path_most = leb-true _ _ p3.0 in
    let b : e - k ≡ a = omega arith in
    let y : Target = record { prefix = prefix_of options (drop e w); start = e; len = length w - e; host = k; hostlen = e - k } in
    let made : TargetView options w y = record {
      some = omega arith;
      size = omega arith;
      path = rw (part-all w e) (prefixed-good options (drop e w) (all_drop (has_class path) e w p1.0) (omega arith));
      within = omega arith;
      host = inr (rw b p2.0, omega arith);
    } in
    rw (of-target y x p4.1) at made

pub target-view : (scheme : ℕ) (options : Bool) (w : List ℕ) (x : Target) → target_of scheme options w ≡ Ok x → TargetView options w x
unfolding target_of
target-view scheme options w x = pick (eqb (scheme_len w) 0)
  where
    pick : (b : Bool) → cond b (plain_target options w) (absolute_target scheme options w (scheme_len w)) ≡ Ok x → TargetView options w x
    pick true e = plain-view options w x e
    pick false e = absolute-view scheme options w (scheme_len w) x e

-- ---- what is written is judged good: a path alone

starts-slash : (s : List ℕ) → scheme_len (47 ∷ s) ≡ 0
unfolding scheme_len starts_with same_text lower_of
starts-slash s = refl

no-scheme : (p : List ℕ) → 1 ≤ length p → (get_or p 0 0 ≡ 47) ⊎ (p ≡ ascii "*") → scheme_len p ≡ 0
unfolding scheme_len starts_with same_text lower_of
no-scheme [] h f = absurd (omega arith)
no-scheme (b ∷ s) h (inl f) = let g : b ≡ 47 = f in ap (λ (z : ℕ). scheme_len (z ∷ s)) g ∙ starts-slash s
no-scheme (b ∷ s) h (inr f) = ap scheme_len f

pub target-back : (scheme : ℕ) (options : Bool) (p : List ℕ) → path_verdict options p ≡ passed → target_of scheme options p ≡ Ok (path_alone (length p))
unfolding target_of plain_target
target-back scheme options p e = let r = path-rule options p e in rw (no-scheme p r.0 r.1, e)
