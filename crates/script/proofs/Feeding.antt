-- Feeding octet by octet says what `run` says on the octets so far, for every script.
use Prim.Native.Nat.{ℕ}
use mathlib.Core.Path.{◌≡◌, refl, sym, ap, ◌∙◌}
use mathlib.Core.Bool.{true}
use mathlib.Core.List.{List, [], ◌∷◌, ◌++◌, append_assoc, append-nil}
use Rattle.script.specs.Script.{Cut, cut, bad, short, Cutter, Script, done, stop, need, cut_by, run, on_cut}
use Rattle.script.proofs.Made.{later, cut_later}
use Rattle.script.specs.Feed.{Waiting, ended, failed, waits, on_word, after, feed, feed_all, says, is_settled}

-- the clauses, as equations between calls
pub after-done : {A : Type 0} (a : A) (at : ℕ) (s : List ℕ) → after (done a) at s ≡ ended at a
unfolding after
after-done a at s = refl

pub after_stop : {A : Type 0} (n p at : ℕ) (s : List ℕ) → after {A = A} (stop n p) at s ≡ failed n p
unfolding after
after_stop n p at s = refl

pub after-need : {A : Type 0} (c : Cutter) (f : ℕ → List ℕ → Script A) (at : ℕ) (s : List ℕ)
    → after (need c f) at s ≡ on_word c f at s (cut_by c at s) (λ next w r. after (f at w) next r)
unfolding after
after-need c f at s = refl

-- what it says is what the reader says
pub says-run : {A : Type 0} (sc : Script A) (at : ℕ) (s : List ℕ) → says (after sc at s) ≡ run sc at s
unfolding after run
says-run (done a) at s = refl
says-run (stop n p) at s = refl
says-run (need c f) at s = go (cut_by c at s) (λ w m r. says-run (f at w) m r)
  where
    go : (x : Cut) → ((w : List ℕ) (m : ℕ) (r : List ℕ) → says (after (f at w) m r) ≡ run (f at w) m r)
        → says (on_word c f at s x (λ next w r. after (f at w) next r)) ≡ on_cut at x (λ next w r. run (f at w) next r)
    go (cut m w r) ih = ih w m r
    go (bad m) ih = refl
    go short ih = refl

-- one octet more
pub feed-after : {A : Type 0} (sc : Script A) (at : ℕ) (s : List ℕ) (b : ℕ) → feed (after sc at s) b ≡ after sc at (s ++ b ∷ [])
unfolding after feed
feed-after (done a) at s b = refl
feed-after (stop n p) at s b = refl
feed-after (need c f) at s b = go (cut_by c at s) (cut_later c at s (b ∷ [])) (λ w m r. feed-after (f at w) m r b)
  where
    go : (x : Cut) → cut_by c at (s ++ b ∷ []) ≡ later x (b ∷ []) (cut_by c at (s ++ b ∷ []))
        → ((w : List ℕ) (m : ℕ) (r : List ℕ) → feed (after (f at w) m r) b ≡ after (f at w) m (r ++ b ∷ []))
        → feed (on_word c f at s x (λ next w r. after (f at w) next r)) b
        ≡ on_word c f at (s ++ b ∷ []) (cut_by c at (s ++ b ∷ [])) (λ next w r. after (f at w) next r)
    go (cut m w r) e ih = rw e (ih w m r)
    go (bad m) e ih = rw e
    go short e ih = refl

-- octets, one after another
pub feed-all : {A : Type 0} (sc : Script A) (at : ℕ) (s u : List ℕ) → feed_all (after sc at s) u ≡ after sc at (s ++ u)
unfolding feed_all
feed-all sc at s [] = ap (after sc at) (sym (append-nil s))
feed-all sc at s (b ∷ u) = rw (feed-after sc at s b) (feed-all sc at (s ++ b ∷ []) u ∙ ap (after sc at) (append_assoc s (b ∷ []) u))

-- from nothing on: after each octet the answer is the reader's on the octets so far
pub fed : {A : Type 0} (sc : Script A) (at : ℕ) (s : List ℕ) → says (feed_all (after sc at []) s) ≡ run sc at s
fed sc at s = ap says (feed-all sc at [] s) ∙ says-run sc at s

-- what is settled stays
pub settled-stays : {A : Type 0} (x : Waiting A) (b : ℕ) → is_settled x ≡ true → feed x b ≡ x
unfolding feed
settled-stays (ended n a) b h = refl
settled-stays (failed n p) b h = refl
settled-stays (waits c f at w) b h = cc

-- ---- where a script stands after the octets so far, as a stepper knows it: as the rest of it, begun at a place, does after the octets of the present word

module _ {A : Type 0} (sc : Script A) (i : ℕ) (s : List ℕ) (b : ℕ) where
  pub one-more : (rest : Script A) (at : ℕ) (w : List ℕ) → after sc i s ≡ after rest at w → after sc i (s ++ b ∷ []) ≡ after rest at (w ++ b ∷ [])
  one-more rest at w e = sym (feed-after sc i s b) ∙ ap (λ (x : Waiting A). feed x b) e ∙ feed-after rest at w b

  pub ended-stays : (n : ℕ) (a : A) → after sc i s ≡ ended n a → after sc i (s ++ b ∷ []) ≡ ended n a
  unfolding feed
  ended-stays n a e = sym (feed-after sc i s b) ∙ ap (λ (x : Waiting A). feed x b) e

  pub failed-stays : (n p : ℕ) → after sc i s ≡ failed n p → after sc i (s ++ b ∷ []) ≡ failed n p
  unfolding feed
  failed-stays n p e = sym (feed-after sc i s b) ∙ ap (λ (x : Waiting A). feed x b) e
