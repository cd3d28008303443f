-- What a line that is judged good is: its parts, their rules and their places.
use Rattle.std.proofs.Common.{None, Some, Err, Ok, Result}
use Prim.Native.Nat.{ℕ, ◌+◌, ◌-◌, ◌*◌, ◌<◌, ◌≤◌, min}
use mathlib.Core.Path.{◌≡◌, refl, sym, ap, ◌∙◌, subst}
use mathlib.Core.Bool.{Bool, true, false, cond, not}
use mathlib.Core.Logic.{◌⊎◌}
use mathlib.Core.List.{List, [], ◌∷◌, ◌++◌, map}
use native.Mathlib.Omega.{arith}
use native.Mathlib.Numerals.{add-one}
use lib.Dec.{eqb, ltb, leb}
use lib.ListN.{length, get_or, take, drop, length-drop}
use lib.Seq.{drop-drop, take-take, split_at, length-take-le}
use borrow.Author.Tests.{eqb-true, eqb-false, leb-false}
use Rattle.std.proofs.Common.{Option}
use Rattle.octets.specs.Class.{has_class, token, value, is_blank}
use Rattle.octets.specs.Text.{span_len, all, is_other, lower_of, same_text, trim_back}
use Rattle.octets.proofs.Kit.{past, into}
pub use Rattle.octets.proofs.Texts.{drop-take}
use Rattle.octets.proofs.Texts.{span-within, span-full, all-take-span, trim-within, same-eq}
use Rattle.numbers.specs.Digits.{digit_of, most, num_from, num_of}
use Rattle.script.specs.Script.{Lies}
use Rattle.script.proofs.Places.{lies-from}
use Rattle.messages.specs.Control.{method_verdict, is_options, path_verdict, is_host, status_verdict, is_lower_name, is_trimmed_value, passed}
use Rattle.messages.proofs.Verdicts.{behind_good, method-rule, name-made, value_made}
use Rattle.messages.specs.Message.{prefix_octets}
use Rattle.http1_lines.specs.Target.{target_of}
use Rattle.http1_lines.specs.declared.FieldLine.{FieldLine}
use Rattle.http1_lines.specs.declared.Target.{Target}
use Rattle.http1_lines.specs.declared.RequestLine.{RequestLine}
use Rattle.http1_lines.specs.Lines.{version, on_target, request_parts, request_version, request_target, request_lens, status_at, status_version, is_status_shape, status_lens, field_parts}
use Rattle.http1_lines.specs.Lines.{value_from, value_in, name_to, field_lens, on_size, chunk_lens}
use Rattle.http1_lines.proofs.Judges.{shape-long}
use Rattle.http1_lines.proofs.RequestTargets.{target-view}
use Rattle.octets.specs.declared.Refusal.{Refusal}
use Rattle.http1_lines.specs.Lines.{with_target}

-- a list around its element n
around : (w : List ℕ) (n c : ℕ) → n < length w → get_or w n 0 ≡ c → w ≡ take n w ++ c ∷ drop (n + 1) w
around w n c h e = split_at w n 0 h ∙ rw (e, add-one)

-- a part of a line lies in the input where the line does
pub lies-piece : {s : List ℕ} {at : ℕ} {w : List ℕ} (b l : ℕ) → b + l ≤ length w → Lies s at w → Lies s (at + b) (take l (drop b w))
lies-piece b l h y = lies-from b l (omega arith) y

-- ---- field lines

-- the line is a name of n octets, a colon, and a value of l octets from b on with blanks around it
pub record FieldView (w : List ℕ) (n b l : ℕ) : Type 0 where
  pub some : 1 ≤ n
  pub before : n < b
  pub within : b + l ≤ length w
  pub name : all (has_class token) (take n w) ≡ true
  pub lower : is_lower_name (map lower_of (take n w)) ≡ true
  pub trim : is_trimmed_value (take l (drop b w)) ≡ true
  pub split : w ≡ take n w ++ 58 ∷ drop (n + 1) w

no-field : {f : FieldLine} → None ≡ Some f → ⊥
no-field e = let z : ◌≡◌ {A = ℕ} 0 1 = cc in omega arith

pub field-view : (w : List ℕ) (n b l : ℕ) → field_lens w ≡ Some (field_parts n b l) → FieldView w n b l
unfolding field_lens name_to value_in value_from
field-view w n b l e =
    let k : ℕ = span_len (has_class token) w in
    let u : List ℕ = drop (k + 1) w in
    let d : ℕ = span_len is_blank u in
    let v : ℕ = k + 1 + d in
    let z : ℕ = trim_back is_blank (drop v w) (length w - v) in
    let p1 = past no-field (eqb k 0) _ e in
    let p2 = past no-field (leb (length w) k) _ p1.1 in
    let p3 = into no-field (eqb (get_or w k 0) 58) _ p2.1 in
    let p4 = into no-field (eqb (k + 1 + span_len (has_class value) u) (length w)) _ p3.1 in
    let q : Some (field_parts k v z) ≡ Some (field_parts n b l) = p4.1 in
    let y : field_parts k v z ≡ field_parts n b l = cc in
    let l1 : (k ≡ 0 → ⊥) = eqb-false k 0 p1.0 in
    let l2 : k < length w = leb-false (length w) k p2.0 in
    let l3 : get_or w k 0 ≡ 58 = eqb-true (get_or w k 0) 58 p3.0 in
    let l4 : k + 1 + span_len (has_class value) u ≡ length w = eqb-true _ _ p4.0 in
    let l5 : length u ≡ length w - (k + 1) = length-drop (k + 1) w in
    let l6 : d ≤ length u = span-within is_blank u in
    let l7 : z ≤ length w - v = trim-within is_blank (drop v w) (length w - v) in
    let l8 : length (take k w) ≡ k = length-take-le k w (omega arith) in
    let f : drop d u ≡ drop v w = drop-drop d (k + 1) w in
    let g : length (drop v w) ≡ length w - v = length-drop v w in
    let made : FieldView w k v z = record {
      some = omega arith;
      before = omega arith;
      within = omega arith;
      name = all-take-span (has_class token) w;
      lower = name-made (take k w) (omega arith) (all-take-span (has_class token) w);
      trim = rw (f, g) at (value_made u (span-full (has_class value) u (omega arith)));
      split = around w k 58 l2 l3;
    } in
    subst (λ (f : FieldLine). FieldView w f.name f.value f.len) y made

pub field-within : (w : List ℕ) (n b l : ℕ) → field_lens w ≡ Some (field_parts n b l) → (1 ≤ n) × (n < b) × (b + l ≤ length w)
field-within w n b l e = let v = field-view w n b l e in (v.some, v.before, v.within)

-- ---- request lines

-- n octets from the octet a on of the target, which has d octets and stands in the line behind k + 1 others
target-part : (w : List ℕ) (k d a n : ℕ) → a + n ≤ d → take n (drop a (take d (drop (k + 1) w))) ≡ take n (drop (k + 1 + a) w)
target-part w k d a n h = rw (drop-take a d (drop (k + 1) w), drop-drop a (k + 1) w) (take-take n (d - a) (drop (k + 1 + a) w) (omega arith))

-- the line is a method of m octets, a space, the target x, a space and the version
pub record RequestView (w : List ℕ) (m : ℕ) (x : Target) : Type 0 where
  pub some : 1 ≤ m
  pub more : 1 ≤ x.start + x.len
  pub size : m + 1 + (x.start + x.len) + 9 ≡ length w
  pub method : method_verdict (take m w) ≡ passed
  pub path : path_verdict (is_options (take m w)) (prefix_octets x.prefix ++ take x.len (drop (m + 1 + x.start) w)) ≡ passed
  pub within : m + 1 + (x.host + x.hostlen) + 9 ≤ length w
  pub host : (x.hostlen ≡ 0) ⊎ ((is_host (take x.hostlen (drop (m + 1 + x.host) w)) ≡ true) × (x.host + x.hostlen ≡ x.start))

no-request : {n : Refusal} {q : RequestLine} → Err n ≡ Ok q → ⊥
no-request e = let z : ◌≡◌ {A = ℕ} 0 1 = cc in omega arith

-- a request line that is good has a good target
on-target : (k : ℕ) (y : Result Target Refusal) (m : ℕ) (x : Target) → on_target k y ≡ Ok (with_target m x) → (k ≡ m) × (y ≡ Ok x)
on-target k (Ok z) m x e =
    let y : with_target k z ≡ with_target m x = cc in
    (ap (λ (q : RequestLine). q.method) y, ap (λ (q : RequestLine). Ok q.target) y)
on-target k (Err n) m x e = absurd (no-request e)

pub request-view : (scheme : ℕ) (w : List ℕ) (m : ℕ) (x : Target) → request_lens scheme w ≡ Ok (with_target m x) → RequestView w m x
unfolding request_lens request_target request_version request_parts
request-view scheme w m y e =
    let k : ℕ = span_len (is_other 32) w in
    let u : List ℕ = drop (k + 1) w in
    let d : ℕ = span_len (is_other 32) u in
    let v : ℕ = k + 1 + d in
    let x : ℕ = v - (k + 1) in
    let p1 = past no-request (leb (length w) k) _ e in
    let p2 = past no-request (leb (length w) v) _ p1.1 in
    let p3 = into no-request (eqb (v + 1 + span_len (is_other 32) (drop (v + 1) w)) (length w)) _ p2.1 in
    let p4 = into no-request (same_text (drop (v + 1) w) version) _ p3.1 in
    let p5 = behind_good (method_verdict (take k w)) _ p4.1 in
    let p6 = on-target k (target_of scheme (is_options (take k w)) (take x u)) m y p5.1 in
    let ex : x ≡ d = omega arith in
    let l1 : k < length w = leb-false (length w) k p1.0 in
    let l2 : v < length w = leb-false (length w) v p2.0 in
    let l3 : length u ≡ length w - (k + 1) = length-drop (k + 1) w in
    let l4 : length (drop (v + 1) w) ≡ length w - (v + 1) = length-drop (v + 1) w in
    let l5 : drop (v + 1) w ≡ version = same-eq (drop (v + 1) w) version p4.0 in
    let l6 : length w ≡ v + 9 = let z = rw l5 at l4 in omega arith in
    let l7 : length (take k w) ≡ k = length-take-le k w (omega arith) in
    let l8 : length (take d u) ≡ d = length-take-le d u (omega arith) in
    let g : method_verdict (take k w) ≡ passed = p5.0 in
    let r = method-rule (take k w) g in
    let t = target-view scheme (is_options (take k w)) (take x u) y p6.1 in
    let l9 : length (take x u) ≡ x = length-take-le x u (omega arith) in
    let f1 = target-part w k x y.start y.len (omega (arith, t.size)) in
    let f2 = target-part w k x y.host y.hostlen (omega (arith, t.within)) in
    let made : RequestView w k y = record {
      some = omega arith;
      more = omega (arith, t.some, t.size);
      size = omega (arith, t.size);
      method = g;
      path = rw f1 at t.path;
      within = omega (arith, t.within);
      host = rw f2 at t.host;
    } in
    rw p6.0 at made

-- ---- status lines

-- the line is the version, a space, three digits of n, a space and a reason
pub record StatusView (w : List ℕ) (n : ℕ) : Type 0 where
  pub size : 13 ≤ length w
  pub front : take 8 w ≡ version
  pub number : n ≡ status_at w 9
  pub good : status_verdict n ≡ passed

no-status : {r : Refusal} {n : ℕ} → Err r ≡ Ok n → ⊥
no-status e = let z : ◌≡◌ {A = ℕ} 0 1 = cc in omega arith

pub status-view : (w : List ℕ) (n : ℕ) → status_lens w ≡ Ok n → StatusView w n
unfolding status_lens status_version
status-view w n e =
    let v : ℕ = span_len (is_other 32) w in
    let x : ℕ = status_at w (v + 1) in
    let p1 = into no-status (is_status_shape w v) _ e in
    let p2 = into no-status (same_text (take v w) version) _ p1.1 in
    let p3 = behind_good (status_verdict x) _ p2.1 in
    let q : ◌≡◌ {A = Result ℕ Refusal} (Ok x) (Ok n) = p3.1 in
    let en : x ≡ n = cc in
    let l1 : v + 5 ≤ length w = shape-long w v refl p1.0 in
    let l2 : take v w ≡ version = same-eq (take v w) version p2.0 in
    let l3 : length (take v w) ≡ v = length-take-le v w (omega arith) in
    let l4 : v ≡ 8 = let y = rw l2 at l3 in omega arith in
    let g : status_verdict x ≡ passed = p3.0 in
    record {
      size = omega arith;
      front = rw l4 at l2;
      number = rw l4 at (sym en);
      good = rw en at g;
    }

-- ---- chunk lines

num-most : (base m : ℕ) (s : List ℕ) (n : ℕ) → num_from base m s ≡ Some n → n ≤ most
unfolding num_from
num-most base m [] n e = let q : min m most ≡ n = cc in omega arith
num-most base m (b ∷ s) n e = pick (ltb (digit_of b) base) (num-most base (m * base + digit_of b) s n) e
  where
    pick : (t : Bool) → (num_from base (m * base + digit_of b) s ≡ Some n → n ≤ most) → cond t (num_from base (m * base + digit_of b) s) None ≡ Some n → n ≤ most
    pick true ih e = ih e
    pick false ih e = let z : ◌≡◌ {A = ℕ} 0 1 = cc in absurd (omega arith)

number-most : (base : ℕ) (s : List ℕ) (n : ℕ) → num_of base s ≡ Some n → n ≤ most
unfolding num_of
number-most base [] n e = let z : ◌≡◌ {A = ℕ} 0 1 = cc in absurd (omega arith)
number-most base (b ∷ s) n e = num-most base 0 (b ∷ s) n e

sized : (r : Option ℕ) (t : Bool) (n : ℕ) → on_size r t ≡ Some n → r ≡ Some n
sized (Some m) true n e = let q : m ≡ n = cc in ap Some q
sized (Some m) false n e = let z : ◌≡◌ {A = ℕ} 0 1 = cc in absurd (omega arith)
sized None t n e = let z : ◌≡◌ {A = ℕ} 0 1 = cc in absurd (omega arith)

-- a size is a number that was read, so sums with it do not wrap
pub chunk-within : (w : List ℕ) (n : ℕ) → chunk_lens w ≡ Some n → n ≤ most
unfolding chunk_lens
chunk-within w n e = number-most 16 (take (span_len (is_other 59) w) w) n (sized _ _ n e)
