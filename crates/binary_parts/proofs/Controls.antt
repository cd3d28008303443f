-- The control data of a request, part by part.
use Prim.Native.Nat.{ℕ, ◌+◌, ◌<◌, ◌≤◌, ◌-◌}
use mathlib.Core.Path.{◌≡◌, refl, sym, ap, subst, ◌∙◌}
use mathlib.Core.Bool.{Bool}
use mathlib.Core.List.{List}
use native.Mathlib.Nat.{add-sub_cancel_left}
use native.Mathlib.Omega.{arith}
use lib.ListN.{length, drop, take}
use Rattle.std.proofs.Common.{Result, Ok, Err}
use Rattle.octets.specs.Limits.{method_most, authority_most, path_most}
use Rattle.octets.specs.Refusals.{refused_at}
use Rattle.octets.specs.declared.Refused.{Refused}
use Rattle.script.specs.Do.{Piece, piece}
use Rattle.messages.specs.Control.{method_verdict, authority_verdict, path_verdict, is_options}
use Rattle.messages.specs.declared.Span.{Span}
use Rattle.binary.specs.declared.Cursor.{Cursor}
use Rattle.binary.specs.Reader.{Got, got, no, ◌>>=◌}
use Rattle.binary.specs.Read.{RequestControl, ruled_part, scheme_part, after_scheme, request_control}
use Rattle.binary_parts.specs.Control.{StandsIn, Parted, Schemed, span_of, piece_of, Inside, InsideAll, control_of, ControlSays, Controlled}
use Rattle.binary_parts.specs.declared.PartRead.{PartRead}
use Rattle.binary_parts.specs.declared.SchemeRead.{SchemeRead}
use Rattle.binary_parts.specs.declared.ControlRead.{ControlRead}
use Rattle.binary_parts.proofs.Places.{stands-in, span-back, part_no, part-got}
use Rattle.binary_parts.proofs.Judged.{schemed-no, schemed-got}

controlled-as : {s : List ℕ} {x y : Got RequestControl} {r : Result ControlRead Refused} → x ≡ y → Controlled s y r → Controlled s x r
controlled-as {s} {r = r} e h = subst (λ (z : Got RequestControl). Controlled s z r) (sym e) h

controlled-no : {s : List ℕ} {x : Got RequestControl} {e : Refused} → x ≡ no e.number e.place → Controlled s x (Err e)
controlled-no h = controlled-as h (record { says = refl })

controlled-got : (s : List ℕ) (c : ControlRead) {x : Got RequestControl} → InsideAll s c → c.scheme < 2 → c.end.at ≤ length s → c.end.long ≤ c.end.at
    → x ≡ got (control_of s c) c.end (drop c.end.at s) → Controlled s x (Ok c)
controlled-got s c f g h k q =
    controlled-as q
    (record {
      says = (
        rw (span-back s c.method f.0, span-back s c.authority f.1, span-back s c.path f.2),
        stands-in s c.method.start c.method.len f.0,
        g,
        stands-in s c.authority.start c.authority.len f.1,
        stands-in s c.path.start c.path.len f.2,
        (h, refl, k),
      );
    })

-- ---- behind method and scheme

module _ (s : List ℕ) (m : Span) (v : SchemeRead) (f : Inside s m) (g : v.scheme < 2) {r : Result PartRead Refused}
    (a : Parted s (ruled_part authority_most authority_verdict v.end (drop v.end.at s)) r) where
  pub authority-no : {e : Refused} → r ≡ Err e → Controlled s (after_scheme (piece_of s m) v.scheme v.end (drop v.end.at s)) (Err e)
  unfolding after_scheme ◌>>=◌
  authority-no e = controlled-no (rw (part_no a e))

  module _ {i : PartRead} (e : r ≡ Ok i) {o : Bool} (z : o ≡ is_options (take (m.start + m.len - m.start) (drop m.start s))) {q : Result PartRead Refused}
      (p : Parted s (ruled_part path_most (path_verdict o) i.end (drop i.end.at s)) q) where
    options-is : is_options (take m.len (drop m.start s)) ≡ o
    options-is = sym (z ∙ ap (λ (n : ℕ). is_options (take n (drop m.start s))) (add-sub_cancel_left m.start m.len))

    pub path-no : {x : Refused} → q ≡ Err x → Controlled s (after_scheme (piece_of s m) v.scheme v.end (drop v.end.at s)) (Err x)
    unfolding after_scheme ◌>>=◌
    path-no d = controlled-no (rw ((part-got a e).taken, options-is, part_no p d))

    pub rest-got : {j : PartRead} → q ≡ Ok j
        → Controlled s (after_scheme (piece_of s m) v.scheme v.end (drop v.end.at s)) (Ok (record { method = m; scheme = v.scheme; authority = i.part; path = j.part; end = j.end }))
    unfolding after_scheme ◌>>=◌
    rest-got {j} d =
        let b = part-got a e in
        let c = part-got p d in
        controlled-got s (record { method = m; scheme = v.scheme; authority = i.part; path = j.part; end = j.end }) (f, b.inside, c.inside) g
        (omega (arith, c.inside, c.behind)) c.few (rw (b.taken, options-is, c.taken))

-- ---- method and scheme

module _ (s : List ℕ) (from : Cursor) {r : Result PartRead Refused} (m : Parted s (ruled_part method_most method_verdict from (drop from.at s)) r) where
  pub method-no : {e : Refused} → r ≡ Err e → Controlled s (request_control from (drop from.at s)) (Err e)
  unfolding request_control ◌>>=◌
  method-no e = controlled-no (rw (part_no m e))

  module _ {i : PartRead} (e : r ≡ Ok i) {q : Result SchemeRead Refused} (c : Schemed s (scheme_part i.end (drop i.end.at s)) q) where
    pub scheme-bad : {x : Refused} → q ≡ Err x → Controlled s (request_control from (drop from.at s)) (Err x)
    unfolding request_control ◌>>=◌
    scheme-bad d = controlled-no (rw ((part-got m e).taken, schemed-no c d))

    pub behind-scheme : {v : SchemeRead} {o : Result ControlRead Refused} → q ≡ Ok v → Controlled s (after_scheme (piece_of s i.part) v.scheme v.end (drop v.end.at s)) o
        → Controlled s (request_control from (drop from.at s)) o
    unfolding request_control ◌>>=◌
    behind-scheme d h = controlled-as (rw ((part-got m e).taken, (schemed-got c d).taken)) h

-- ---- what the caller learns

pub record ControlDone (s : List ℕ) (x : Got RequestControl) (c : ControlRead) : Type 0 where
  pub taken : x ≡ got (control_of s c) c.end (drop c.end.at s)
  pub inside : InsideAll s c
  pub scheme : c.scheme < 2
  pub within : c.end.at ≤ length s
  pub few : c.end.long ≤ c.end.at

same-got : (s : List ℕ) {m m' a a' p p' : Piece} {v : ℕ} {i : Cursor} {l : List ℕ} → m ≡ m' → a ≡ a' → p ≡ p' → l ≡ drop i.at s
    → ◌≡◌ {A = Got RequestControl} (got (record { method = m; scheme = v; authority = a; path = p }) i l)
    (got (record { method = m'; scheme = v; authority = a'; path = p' }) i (drop i.at s))
same-got s d e f g = rw (d, e, f, g)

piece-back : {s : List ℕ} {w : Piece} → StandsIn s w → w ≡ piece_of s (span_of w)
piece-back {w = w} h = ap (λ (t : List ℕ). piece w.place t) h.taken

module _ {s : List ℕ} {x : Got RequestControl} {r : Result ControlRead Refused} (h : Controlled s x r) where
  pub control-no : {e : Refused} → r ≡ Err e → x ≡ no e.number e.place
  control-no {e} q = go x h.says
    where
      go : (y : Got RequestControl) → ControlSays s y r → y ≡ no e.number e.place
      go (got c i l) d = let f = d.0 in cc
      go (no m k) d = let z : refused_at m k ≡ e = cc in ap (λ (f : Refused). no f.number f.place) z

  pub control-done : {c : ControlRead} → r ≡ Ok c → ControlDone s x c
  control-done {c} e = go x h.says
    where
      go : (y : Got RequestControl) → ControlSays s y r → ControlDone s y c
      go (got q i l) d =
          let f = d.0 in
          let z : ◌≡◌ {A = ControlRead} (record { method = span_of q.method; scheme = q.scheme; authority = span_of q.authority; path = span_of q.path; end = i }) c = cc in
          subst (λ (c : ControlRead). ControlDone s (got q i l) c) z
          (record {
            taken = same-got s (piece-back d.1) (piece-back d.3) (piece-back d.4) d.5.1;
            inside = (d.1.inside, d.3.inside, d.4.inside);
            scheme = d.2;
            within = d.5.0;
            few = d.5.2;
          })
      go (no n k) d = let o : ◌≡◌ {A = ℕ} 0 1 = cc in absurd (omega arith)
