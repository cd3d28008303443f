-- What a line that is judged good gives: its parts lie in the input, and obey their rules.
use Rattle.std.proofs.Common.{None, Option, Some, Err, Ok, Result}
use Prim.Native.Nat.{ℕ, ◌+◌, ◌≤◌}
use mathlib.Core.Path.{◌≡◌, refl, subst}
use mathlib.Core.Bool.{true}
use mathlib.Core.Logic.{◌⊎◌, inl, inr}
use mathlib.Core.List.{List}
use native.Mathlib.Omega.{arith}
use lib.ListN.{length, take, drop, length-take, length-drop}
use lib.Seq.{length-take-le}
use borrow.Author.Tests.{eq-eqb}
use Rattle.octets.specs.Text.{is_empty}
use Rattle.script.specs.Do.{Piece, piece, good}
use Rattle.script.proofs.Places.{lies-front, lies-from}
use Rattle.messages.specs.Message.{FieldRead, PathRead, path_octets}
use Rattle.messages.specs.Control.{method_verdict, is_options, path_verdict, is_host, status_verdict, passed}
use Rattle.http1_lines.specs.Lines.{RequestRead, within, on_request, request_of, request_lens, on_status, status_of, status_lens, on_field, field_of, field_lens}
use Rattle.http1_lines.specs.declared.Target.{Target}
use Rattle.http1_lines.specs.declared.RequestLine.{RequestLine}
use Rattle.http1_lines.specs.declared.FieldLine.{FieldLine}
use Rattle.http1_lines.proofs.Views.{field-view, request-view, status-view}
use Rattle.sound.specs.Placed.{Lying}
use Rattle.sound.proofs.Parts.{LineAt}
use Rattle.http1_sound.specs.Read.{InTarget}
use Rattle.octets.specs.declared.Refusal.{Refusal}

pub line_at : (s : List ℕ) (l : Piece) (f : FieldRead) → field_of l ≡ good f → Lying s l → LineAt s f
unfolding field_of
line_at s l f e y = go (field_lens l.text) refl e
  where
    go : (x : Option FieldLine) → field_lens l.text ≡ x → on_field l x ≡ good f → LineAt s f
    go (Some x) q g =
        let n : ℕ = x.name in
        let b : ℕ = x.value in
        let k : ℕ = x.len in
        let v = field-view l.text n b k q in
        let r : FieldRead = record { name = piece l.place (take n l.text); value = piece (l.place + b) (take k (drop b l.text)); place = l.place } in
        let z : r ≡ f = cc in
        let x : LineAt s r = record {
          lies = record { name = lies-front n y; value = lies-from b k (omega (arith, v.within)) y };
          good = record { name = v.lower; value = v.trim };
        } in
        subst (LineAt s) z x
    go None q g = let z : ◌≡◌ {A = ℕ} 0 1 = cc in absurd (omega arith)

-- the target's authority is empty, or names a host and stands right before the path
abbrev pub TargetHost : Piece → PathRead → Type 0
TargetHost a p = (is_empty a.text ≡ true) ⊎ ((is_host a.text ≡ true) × InTarget a p)

pub record RequestAt (s : List ℕ) (q : RequestRead) : Type 0 where
  pub method : Lying s q.method
  pub path : Lying s q.path.own
  pub authority : Lying s q.authority
  pub method_good : method_verdict q.method.text ≡ passed
  pub path_good : path_verdict (is_options q.method.text) (path_octets q.path) ≡ passed
  pub target : TargetHost q.authority q.path

target-host : (l : Piece) (a n : ℕ) (p : PathRead) → a + n ≤ length l.text
    → (n ≡ 0) ⊎ ((is_host (within l a n).text ≡ true) × (l.place + (a + n) ≡ p.own.place)) → TargetHost (within l a n) p
unfolding is_empty
target-host l a n p i (inl e) =
    inl (eq-eqb (length (take n (drop a l.text))) 0 (omega (arith, length-take n (drop a l.text))))
target-host l a n p i (inr e) =
    let k : length (take n (drop a l.text)) ≡ n = length-take-le n (drop a l.text) (omega (arith, length-drop a l.text)) in
    inr (e.0, omega (arith, e.1))

pub request-at : (s : List ℕ) (scheme : ℕ) (l : Piece) (q : RequestRead) → request_of scheme l ≡ good q → Lying s l → RequestAt s q
unfolding request_of
request-at s scheme l q e y = go (request_lens scheme l.text) refl e
  where
    go : (x : Result RequestLine Refusal) → request_lens scheme l.text ≡ x → on_request l x ≡ good q → RequestAt s q
    go (Ok k) h g =
        let m : ℕ = k.method in
        let x : Target = k.target in
        let v = request-view scheme l.text m x h in
        let p : PathRead = record { prefix = x.prefix; own = within l (m + 1 + x.start) x.len } in
        let r : RequestRead = record { method = piece l.place (take m l.text); path = p; authority = within l (m + 1 + x.host) x.hostlen } in
        let z : r ≡ q = cc in
        let b : RequestAt s r = record {
          method = lies-front m y;
          path = lies-from (m + 1 + x.start) x.len (omega (arith, v.size)) y;
          authority = lies-from (m + 1 + x.host) x.hostlen (omega (arith, v.within)) y;
          method_good = v.method;
          path_good = v.path;
          target = target-host l (m + 1 + x.host) x.hostlen p (omega (arith, v.within)) (placed m x v.host);
        } in
        subst (RequestAt s) z b
      where
        placed : (m : ℕ) (x : Target) → (x.hostlen ≡ 0) ⊎ ((is_host (take x.hostlen (drop (m + 1 + x.host) l.text)) ≡ true) × (x.host + x.hostlen ≡ x.start))
            → (x.hostlen ≡ 0) ⊎ ((is_host (take x.hostlen (drop (m + 1 + x.host) l.text)) ≡ true)
            × (l.place + (m + 1 + x.host + x.hostlen) ≡ l.place + (m + 1 + x.start)))
        placed m x (inl f) = inl f
        placed m x (inr f) = inr (f.0, omega (arith, f.1))
    go (Err n) h g = let z : ◌≡◌ {A = ℕ} 0 1 = cc in absurd (omega arith)

pub status-good : (l : Piece) (n : ℕ) → status_of l ≡ good n → status_verdict n ≡ passed
unfolding status_of
status-good l n e = go (status_lens l.text) refl e
  where
    go : (x : Result ℕ Refusal) → status_lens l.text ≡ x → on_status l x ≡ good n → status_verdict n ≡ passed
    go (Ok k) h g = let z : k ≡ n = cc in subst (λ (i : ℕ). status_verdict i ≡ passed) z (status-view l.text k h).good
    go (Err k) h g = let z : ◌≡◌ {A = ℕ} 0 1 = cc in absurd (omega arith)
