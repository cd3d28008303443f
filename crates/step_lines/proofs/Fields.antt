-- A field line that is whole, in a section: what the section's script is behind it.
use Rattle.std.proofs.Common.{None, Some}
use Prim.Native.Nat.{ℕ, suc, ◌+◌, ◌-◌, ◌<◌, ◌≤◌}
use mathlib.Core.Path.{◌≡◌, refl, ap, ◌∙◌}
use mathlib.Core.Bool.{cond}
use mathlib.Core.List.{List, [], ◌∷◌, ◌++◌}
use native.Mathlib.Omega.{arith}
use borrow.Author.Tests.{eq-eqb, ne_eqb, lt-leb, le-leb}
use lib.Dec.{leb}
use lib.ListN.{length, take, drop}
use Rattle.octets.specs.Text.{is_empty}
use Rattle.octets.specs.Limits.{lines_most}
use Rattle.octets.specs.Refusals.{bad_syntax, too_large}
use Rattle.script.specs.Script.{Script, done, stop}
use Rattle.script.specs.Do.{◌>>=◌, piece, tell}
use Rattle.script.specs.Feed.{failed, after}
use Rattle.script.proofs.Feeding.{after_stop}
use Rattle.messages.specs.Message.{FieldRead}
use Rattle.http1_lines.specs.Lines.{field_lens, field_of, field_parts}
use Rattle.http1_lines.specs.Read.{Lines, less, field_lines}
use Rattle.step_lines.specs.Stepping.{so_far, line_text, LineOpen}
use Rattle.step_lines.specs.declared.Present.{Present}
use Rattle.step_lines.proofs.Opening.{whole, some-octet, text-long, none_left}

-- what a section does with the line v at the place `at`, when it has the lines fs
abbrev line_script : ℕ → ℕ → List FieldRead → ℕ → List ℕ → Script Lines
line_script f left fs at v =
    cond (is_empty v)
    (done (record { lines = fs; end = at + 2; left = left - 2 }))
    (cond (leb lines_most (length fs)) (stop too_large at) (tell (field_of (piece at v)) >>= λ h. field_lines f (less left (piece at v)) (fs ++ h ∷ [])))

-- a line whose lengths are m, c and l, as a section takes it
abbrev pub field_at : ℕ → List ℕ → ℕ → ℕ → ℕ → FieldRead
field_at at v m c l = record { name = piece at (take m v); value = piece (at + c) (take l (drop c v)); place = at }

-- a section that has nothing left
pub section-full : {A : Type 0} (k : Lines → Script A) (f left : ℕ) (fs : List FieldRead) (at : ℕ) → left ≡ 0
    → after (field_lines (suc f) left fs >>= k) at [] ≡ failed too_large at
unfolding field_lines ◌>>=◌
section-full k f left fs at e = none_left _ _ _ e

module _ {A : Type 0} (sc : Script A) (k : Lines → Script A) (lines : ℕ) (fs : List FieldRead) (count : length fs ≡ lines) (l : Present) (room s : List ℕ) (o : LineOpen l room s)
    (stands : after sc 0 s ≡ after (field_lines (suc (lines_most - lines)) l.left fs >>= k) l.at (so_far l room)) (b : ℕ) (x : b ≡ 10) (h : l.cr ≡ 1) where
  by-script : (z : Script Lines) → line_script (lines_most - lines) l.left fs l.at (line_text l room) ≡ z
      → after sc 0 (s ++ b ∷ []) ≡ after (z >>= k) (l.at + (l.have + 1)) []
  unfolding field_lines ◌>>=◌
  by-script z e = whole l room s o sc _ stands b x h ∙ ap (λ (y : Script Lines). after (y >>= k) (l.at + (l.have + 1)) []) e

  -- the empty line
  pub section-ends : length (line_text l room) ≡ 0
      → after sc 0 (s ++ b ∷ []) ≡ after (k (record { lines = fs; end = l.at + 2; left = l.left - 2 })) (l.at + 2) []
  unfolding is_empty ◌>>=◌
  section-ends e =
      let a : l.at + (l.have + 1) ≡ l.at + 2 = omega (arith, text-long l room s o b h, some-octet l room s o b h) in
      by-script (done (record { lines = fs; end = l.at + 2; left = l.left - 2 })) (rw (eq-eqb (length (line_text l room)) 0 e) refl)
      ∙ ap (λ (z : ℕ). after (k (record { lines = fs; end = l.at + 2; left = l.left - 2 })) z []) a

  module _ (some : length (line_text l room) ≡ 0 → ⊥) where
    -- a line too many
    pub lines-full : lines_most ≤ lines → after sc 0 (s ++ b ∷ []) ≡ failed too_large l.at
    unfolding is_empty ◌>>=◌
    lines-full e =
        by-script (stop too_large l.at) (rw (ne_eqb (length (line_text l room)) 0 some, le-leb lines_most (length fs) (rw count e)) refl) ∙ after_stop _ _ _ _

    module _ (few : lines < lines_most) where
      pub no-field-line : field_lens (line_text l room) ≡ None → after sc 0 (s ++ b ∷ []) ≡ failed bad_syntax l.at
      unfolding is_empty field_of ◌>>=◌
      no-field-line e =
          by-script (stop bad_syntax l.at) (rw (ne_eqb (length (line_text l room)) 0 some, lt-leb lines_most (length fs) (rw count few), e) refl) ∙ after_stop _ _ _ _

      module _ (m c n : ℕ) (e : field_lens (line_text l room) ≡ Some (field_parts m c n)) where
        -- a field line, and the section goes on
        pub field-line-in : after sc 0 (s ++ b ∷ [])
            ≡ after (field_lines (suc (lines_most - (lines + 1))) (l.left - (l.have + 1)) (fs ++ field_at l.at (line_text l room) m c n ∷ []) >>= k) (l.at + (l.have + 1)) []
        unfolding is_empty field_of ◌>>=◌
        field-line-in =
            let g : lines_most - lines ≡ suc (lines_most - (lines + 1)) = omega arith in
            let d : l.left - (length (line_text l room) + 2) ≡ l.left - (l.have + 1) = omega (arith, text-long l room s o b h, some-octet l room s o b h) in
            by-script (field_lines (suc (lines_most - (lines + 1))) (l.left - (l.have + 1)) (fs ++ field_at l.at (line_text l room) m c n ∷ []))
            (rw (ne_eqb (length (line_text l room)) 0 some, lt-leb lines_most (length fs) (rw count few), e, d, g) refl)

        -- a field line that used the allowance up
        pub field-line-last : l.left - (l.have + 1) ≡ 0 → after sc 0 (s ++ b ∷ []) ≡ failed too_large (l.at + (l.have + 1))
        field-line-last z = field-line-in ∙ section-full k _ _ _ _ z
