use mathlib.Core.Path.{◌≡◌, refl, sym, ap, ◌∙◌}
use mathlib.Core.Logic.{◌↔◌}
use mathlib.Core.Option.{Option, none, some}
use mathlib.Core.List.{List, [], ◌∷◌, ◌++◌, append_assoc, append-nil, append_cancel_right}
use Prim.Native.Nat.{ℕ, zero, suc, ◌+◌, ◌≤◌, ◌<◌}
use native.Mathlib.Omega.{arith}
use lib.ListN.{length, drop, length-append, length-drop}
use lib.Seq.{drop-append-le, drop-append_seam}
use Rattle.script.specs.Script.{Answer, accepted, refused, more, Settled}
use Rattle.stream.specs.Taking.{Taken, message, waits, stops, next, take_f, take_off, resume, onto, add_octets, add_entry, add_call, stream, entries, sent, Faithful}

-- an accepted message is not empty, and lies within the stream
abbrev pub Within : {A : Type 0} → (List ℕ → Answer A) → Type 0
Within {A} read = (s : List ℕ) (n : ℕ) (a : A) → read s ≡ accepted n a → (0 < n) × (n ≤ length s)

abbrev pub Stable : {A : Type 0} → (List ℕ → Answer A) → Type 0
Stable read = (s u : List ℕ) → Settled (read s) → read (s ++ u) ≡ read s

module _ {A : Type 0} (read : List ℕ → Answer A) (within : Within read) where
  -- any number that is large enough gives the same
  same-fuel : (f g : ℕ) (s : List ℕ) → length s < f → length s < g → take_f read f s ≡ take_f read g s
  unfolding take_f
  same-fuel zero g s p q = absurd (omega arith)
  same-fuel (suc f) zero s p q = absurd (omega arith)
  same-fuel (suc f) (suc g) s p q = go (read s) refl (λ r. same-fuel f g r)
    where
      go : (x : Answer A) → read s ≡ x → ((r : List ℕ) → length r < f → length r < g → take_f read f r ≡ take_f read g r)
          → next x s (λ r. take_f read f r) ≡ next x s (λ r. take_f read g r)
      go (accepted n a) e ih =
          let w : _ = within s n a e in
          let l : _ = length-drop n s in
          cc (ih (drop n s) (omega arith) (omega arith))
      go (refused k m) e ih = refl
      go more e ih = refl

  pub take_step : (s : List ℕ) → take_off read s ≡ next (read s) s (take_off read)
  unfolding take_off take_f
  take_step s = go (read s) refl
    where
      go : (x : Answer A) → read s ≡ x → next x s (λ r. take_f read (length s) r) ≡ next x s (take_off read)
      go (accepted n a) e =
          let w : _ = within s n a e in
          let l : _ = length-drop n s in
          cc (same-fuel (length s) (suc (length (drop n s))) (drop n s) (omega arith) (omega arith))
      go (refused k m) e = refl
      go more e = refl

  module _ (stable : Stable read) where
    -- the number bounds the length of s: an induction on how much there is
    resumes_f : (f : ℕ) (s u : List ℕ) → length s < f → take_off read (s ++ u) ≡ resume read (take_off read s) u
    unfolding resume
    resumes_f zero s u p = absurd (omega arith)
    resumes_f (suc f) s u p = go (read s) refl (stable s u) (λ r. resumes_f f r u)
      where
        go : (x : Answer A) → read s ≡ x → (Settled (read s) → read (s ++ u) ≡ read s)
            → ((r : List ℕ) → length r < f → take_off read (r ++ u) ≡ resume read (take_off read r) u)
            → take_off read (s ++ u) ≡ resume read (take_off read s) u
        go (accepted n a) e st ih =
            let w : _ = within s n a e in
            let l : _ = length-drop n s in
            let q : read (s ++ u) ≡ accepted n a = st (rw e tt) ∙ e in
            rw (take_step (s ++ u), take_step s, q, e, drop-append-le n s u w.1) (ap (message n a) (ih (drop n s) (omega arith)))
        go (refused k m) e st ih =
            let q : read (s ++ u) ≡ refused k m = st (rw e tt) ∙ e in
            rw (take_step (s ++ u), take_step s, q, e)
        go more e st ih = rw (take_step s, e)

    pub resumes : (s u : List ℕ) → take_off read (s ++ u) ≡ resume read (take_off read s) u
    resumes s u = resumes_f (suc (length s)) s u (omega arith)

    module _ (write : A → Option (List ℕ)) (back : (a : A) (b r : List ℕ) → write a ≡ some b → read (b ++ r) ≡ accepted (length b) a) where
      pub taken : (cs : List A) (r : List ℕ) → take_off read (stream write cs ++ r) ≡ onto (entries write cs) (take_off read r)
      unfolding stream entries
      taken [] r = refl
      taken (a ∷ cs) r = go (write a) refl (taken cs r)
        where
          go : (x : Option (List ℕ)) → write a ≡ x → take_off read (stream write cs ++ r) ≡ onto (entries write cs) (take_off read r)
              → take_off read (add_octets x (stream write cs) ++ r) ≡ onto (add_entry x a (entries write cs)) (take_off read r)
          go none e ih = ih
          go (some b) e ih =
              rw (append_assoc b (stream write cs) r, take_step (b ++ (stream write cs ++ r)), back a b (stream write cs ++ r) e, drop-append_seam)
              (ap (message (length b) a) ih)

      ours : Taken A → List A
      ours (message n a t) = a ∷ ours t
      ours (waits r) = []
      ours (stops k p r) = []

      ours-onto : (cs : List A) (t : Taken A) → ours (onto (entries write cs) t) ≡ sent write cs ++ ours t
      unfolding ours entries sent
      ours-onto [] t = refl
      ours-onto (a ∷ cs) t = go (write a) (ours-onto cs t)
        where
          go : (x : Option (List ℕ)) → ours (onto (entries write cs) t) ≡ sent write cs ++ ours t
              → ours (onto (add_entry x a (entries write cs)) t) ≡ add_call x a (sent write cs) ++ ours t
          go none ih = ih
          go (some b) ih = ap (λ (l : List A). a ∷ l) ih

      stream-sent : (cs : List A) → stream write (sent write cs) ≡ stream write cs
      unfolding stream sent
      stream-sent [] = refl
      stream-sent (a ∷ cs) = go (write a) refl (stream-sent cs)
        where
          go : (x : Option (List ℕ)) → write a ≡ x → stream write (sent write cs) ≡ stream write cs
              → stream write (add_call x a (sent write cs)) ≡ add_octets x (stream write cs)
          go none e ih = ih
          go (some b) e ih = rw e (ap (λ (l : List ℕ). b ++ l) ih)

      pub same : (cs ds : List A) → (stream write cs ≡ stream write ds) ↔ (sent write cs ≡ sent write ds)
      same cs ds = (to, from)
        where
          off : (xs : List A) → ours (take_off read (stream write xs ++ [])) ≡ sent write xs ++ ours (take_off read [])
          off xs = rw (taken xs []) (ours-onto xs (take_off read []))

          to : stream write cs ≡ stream write ds → sent write cs ≡ sent write ds
          to e = append_cancel_right _ _ (ours (take_off read [])) (cc (off cs, off ds))

          from : sent write cs ≡ sent write ds → stream write cs ≡ stream write ds
          from e = cc (stream-sent cs, stream-sent ds)

      pub faithful : Faithful write read
      faithful = record { taken = taken; same = same; resumes = resumes }
