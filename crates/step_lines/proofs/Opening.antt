-- One octet more of the present line, whatever script waits for it.
use Prim.Native.Nat.{ℕ, zero, suc, ◌+◌, ◌-◌, ◌<◌, ◌≤◌}
use mathlib.Core.Path.{◌≡◌, refl, sym, ap, ◌∙◌, subst}
use mathlib.Core.List.{List, [], ◌∷◌, ◌++◌}
use native.Mathlib.Omega.{arith}
use native.Mathlib.Numerals.{add-one}
use lib.ListN.{length, take, drop, set, length-append, length-drop, length-set}
use lib.Seq.{take-suc-set, drop-set-add, take-take, length-take-le}
use Rattle.octets.specs.Limits.{head_most}
use Rattle.octets.specs.Refusals.{bad_syntax, too_large}
use Rattle.script.specs.Script.{Script, need, cr_state}
use Rattle.script.specs.Feed.{Waiting, failed, waits, after, says, Open}
use Rattle.script.specs.Script.{more}
use Rattle.script.proofs.Feeding.{one-more}
use Rattle.script.proofs.Words.{open_none, open_more, open-some, no_line, line-waits, line-too-long, line-wrong, line-ends}
use Rattle.http1_lines.specs.Read.{line_within}
use Rattle.step_lines.specs.Stepping.{so_far, line_text, fresh, one_more, next_present, LineOpen}
use Rattle.step_lines.specs.declared.Present.{Present}

module _ (l : Present) (room s : List ℕ) (o : LineOpen l room s) where
  -- the present line ends before the room does
  pub inside : l.from + l.have < head_most
  inside = omega (arith, o.fits, o.short)

  pub line-long : length (so_far l room) ≡ l.have
  line-long = length-take-le l.have (drop l.from room) (omega (arith, inside, o.space, length-drop l.from room))

  line-more : (b c : ℕ) → so_far (one_more l c) (set room (l.from + l.have) b) ≡ so_far l room ++ b ∷ []
  line-more b c =
      rw (drop-set-add l.from room l.have b, add-one)
      (take-suc-set (drop l.from room) l.have b (omega (arith, inside, o.space, length-drop l.from room)))

  long-more : (b : ℕ) → length (s ++ b ∷ []) ≡ l.at + l.have + 1
  long-more b = length-append s (b ∷ []) ∙ omega (arith, o.long)

  pub line-open-more : (b c : ℕ) → (b ≡ 10 → ⊥) → l.have + 1 < l.left → c ≡ cr_state l.cr b
      → LineOpen (one_more l c) (set room (l.from + l.have) b) (s ++ b ∷ [])
  line-open-more b c e h q = record {
    long = long-more b ∙ omega arith;
    short = h;
    line = rw (line-more b c, q) (open_more l.left l.cr b (so_far l room) o.line e (rw line-long h));
    fits = o.fits;
    space = rw (length-set room (l.from + l.have) b) o.space;
  }

  -- the text of a line that is whole, and the next line behind it
  module _ (b : ℕ) (h : l.cr ≡ 1) where
    pub some-octet : 1 ≤ l.have
    some-octet = omega (arith, line-long, open-some l.left (so_far l room) (subst (λ (c : ℕ). Open l.left c (so_far l room)) h o.line))

    pub text-long : length (line_text l room) ≡ l.have - 1
    text-long = length-take-le (l.have - 1) (drop l.from room) (omega (arith, inside, o.space, length-drop l.from room))

    text-is : take (length (so_far l room) - 1) (so_far l room) ≡ line_text l room
    text-is = rw line-long (take-take (l.have - 1) l.have (drop l.from room) (omega arith))

    pub text-clear : take (l.have - 1) (so_far l room) ≡ line_text l room
    text-clear = take-take (l.have - 1) l.have (drop l.from room) (omega arith)

    -- where the allowance is not used up, the next line is waited for; what is kept is not longer than the line was
    pub next-open : (f : ℕ) (room' : List ℕ) → length room' ≡ length room → (l.left - (l.have + 1) ≡ 0 → ⊥) → f ≤ l.from + (l.have + 1)
        → LineOpen (next_present l f) room' (s ++ b ∷ [])
    next-open f room' e z k = record {
      long = long-more b ∙ omega arith;
      short = omega arith;
      line = open_none (l.left - (l.have + 1)) (omega arith);
      fits = omega (arith, o.fits, o.short);
      space = rw e o.space;
    }

  -- a script sc waits for the line as f does
  module _ {A : Type 0} (sc : Script A) (f : ℕ → List ℕ → Script A) (e : after sc 0 s ≡ after (need (line_within l.left) f) l.at (so_far l room)) where
    pub asks : says (after sc 0 s) ≡ more
    asks = ap says (e ∙ line-waits _ _ _ _ _ l.cr (so_far l room) o.line)

    module _ (b : ℕ) where
      pub goes_on : (c : ℕ) → after sc 0 (s ++ b ∷ []) ≡ after (need (line_within l.left) f) l.at (so_far (one_more l c) (set room (l.from + l.have) b))
      goes_on c = rw (line-more b c) (one-more _ _ _ b _ _ _ e)

      pub too_long : (b ≡ 10 → ⊥) → l.left ≤ l.have + 1 → after sc 0 (s ++ b ∷ []) ≡ failed too_large l.at
      too_long x h =
          one-more _ _ _ b _ _ _ e ∙ line-too-long _ _ _ _ _ l.cr b (so_far l room) o.line x (omega (arith, line-long, o.short))

      pub wrong-end : b ≡ 10 → (l.cr ≡ 1 → ⊥) → after sc 0 (s ++ b ∷ []) ≡ failed bad_syntax l.at
      wrong-end x h = one-more _ _ _ b _ _ _ e ∙ line-wrong _ _ _ _ _ l.cr b (so_far l room) o.line x h

      pub whole : b ≡ 10 → l.cr ≡ 1 → after sc 0 (s ++ b ∷ []) ≡ after (f l.at (line_text l room)) (l.at + (l.have + 1)) []
      whole x h =
          let p : l.at + l.have + 1 ≡ l.at + (l.have + 1) = omega arith in
          one-more _ _ _ b _ _ _ e ∙ line-ends _ _ _ _ _ l.cr b (so_far l room) o.line x h
          ∙ rw (text-is b h, line-long, p) refl

-- before its first octet
pub fresh-open : (at n f : ℕ) (room s : List ℕ) → 0 < n → length s ≡ at → f + n ≤ head_most → head_most ≤ length room → LineOpen (fresh at n f) room s
fresh-open at n f room s h e k g = record { long = omega arith; short = h; line = open_none n h; fits = k; space = g }

-- a line that has no allowance
pub none_left : {A : Type 0} (f : ℕ → List ℕ → Script A) (at n : ℕ) → n ≡ 0 → after (need (line_within n) f) at [] ≡ failed too_large at
none_left f at n e = no_line _ _ _ _ _ e
