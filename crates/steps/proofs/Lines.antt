-- One octet of a line, whatever line it is: the ways that it may take, and refusals.
use Prim.Native.Nat.{ℕ, ◌+◌, ◌-◌, ◌<◌, ◌≤◌}
use mathlib.Core.Path.{◌≡◌, refl, sym, ap, ◌∙◌, subst}
use mathlib.Core.Bool.{Bool, true, false, cond}
use mathlib.Core.List.{List, [], ◌∷◌, ◌++◌}
use native.Mathlib.Omega.{arith}
use borrow.Author.Tests.{le-leb, lt-ltb}
use lib.ListN.{length, take, drop, set}
use lib.Seq.{take-set-le}
use Rattle.octets.specs.Limits.{head_most, lines_most, chunks_most, content_most}
use Rattle.octets.specs.Refusals.{bad_syntax, too_large}
use Rattle.script.specs.Script.{Answer, refused, run, cr_state}
use Rattle.script.specs.Feed.{failed, after, says}
use Rattle.script.proofs.Feeding.{says-run}
use Rattle.messages.specs.declared.Told.{Told}
use Rattle.messages.specs.Message.{Start, PathRead}
use Rattle.script.specs.Do.{Piece}
use Rattle.messages.specs.Valid.{is_scheme}
use Rattle.http1_lines.specs.Read.{request, read_request}
use Rattle.step_lines.specs.Stepping.{line_step, one_more, LineOpen}
use Rattle.step_lines.specs.declared.LineStep.{LineStep}
use Rattle.step_lines.specs.declared.LineStep.TheVariants.{Goes, Whole, Bad, Long}
use Rattle.step_lines.specs.declared.Present.{Present}
use Rattle.step_lines.proofs.Tells.{told}
use Rattle.step_lines.proofs.Opening.{inside}
use Rattle.steps.specs.States.{Held, held, refuse, reading, is_line, is_tally, is_counted, SaneCounts, place_most}
use Rattle.steps.specs.Steps.{whole_by, on_octet, line_octet, line_taken}
use Rattle.steps.specs.Standing.{Fronted, Keeps, Stands, StandsIn}
use Rattle.steps.specs.declared.Control.{Control}
use Rattle.steps.specs.declared.Phase.{Phase}
use Rattle.steps.specs.declared.Phase.TheVariants as phase
use Rattle.steps.specs.declared.State.{State}
use Rattle.steps.proofs.Rooms.{part-front}

-- ---- refusals

pub fails : (t : Told) (s : List ℕ) (n p : ℕ) → is_scheme t.scheme ≡ true → after (request t) 0 s ≡ failed n p → read_request t s ≡ refused n p
unfolding read_request
fails t s n p g e = rw (g, ← says-run (request t) 0 s, e)

pub refuses : (t : Told) (st : State) (room s : List ℕ) (n p : ℕ) → is_scheme t.scheme ≡ true → after (request t) 0 s ≡ failed n p → Stands t (refuse st n p) room s
refuses t st room s n p g e = record { by = fails t s n p g e }

-- ---- numbers of a state that stands for octets

pub counted : (st : State) → SaneCounts st → is_counted st ≡ true
unfolding is_counted is_tally
counted st c =
    rw (
      le-leb st.lines lines_most c.lines,
      le-leb st.control.host head_most c.host,
      le-leb st.control.hostlen head_most c.hostlen,
      le-leb st.tally.chunks chunks_most c.chunks,
      le-leb st.tally.content content_most c.content,
      le-leb st.tally.size content_most c.size,
      le-leb st.tally.trailers lines_most c.trailers,
    )

pub lined : (l : Present) (e : ℕ) (room s : List ℕ) → LineOpen l room s → l.at ≤ place_most → e ≤ l.from → is_line l e ≡ true
unfolding is_line
lined l e room s o p b =
    let a : l.left ≤ head_most = omega (arith, o.fits) in
    let f : l.from ≤ head_most = omega (arith, o.fits) in
    rw (
      le-leb l.at place_most p,
      lt-ltb l.have l.left o.short,
      le-leb l.left head_most a,
      le-leb l.from head_most f,
      lt-ltb (l.from + l.have) head_most (inside l room s o),
      le-leb e l.from b,
    )

-- ---- the ways

module _ (st : State) (room : List ℕ) (b : ℕ) (Q : Held → Type 0)
    (goes : (c : ℕ) → (b ≡ 10 → ⊥) → st.present.have + 1 < st.present.left → c ≡ cr_state st.present.cr b
    → Q (held (reading st st.phase (one_more st.present c)) (set room (st.present.from + st.present.have) b)))
    (whole : b ≡ 10 → st.present.cr ≡ 1 → Q (whole_by st.phase st room))
    (bad : b ≡ 10 → (st.present.cr ≡ 1 → ⊥) → Q (held (refuse st bad_syntax st.present.at) room))
    (long : (b ≡ 10 → ⊥) → st.present.left ≤ st.present.have + 1 → Q (held (refuse st too_large st.present.at) room)) where
  ways : (k : LineStep) → line_step st.present.have st.present.left st.present.cr b ≡ k → Q (on_octet st room b k)
  ways (Goes c) e = let t = told _ _ _ b _ e in goes c t.0 t.1 t.2
  ways Whole e = let t = told _ _ _ b _ e in whole t.0 t.1
  ways Bad e = let t = told _ _ _ b _ e in bad t.0 t.1
  ways Long e = let t = told _ _ _ b _ e in long t.0 t.1

  pub line-ways : Q (line_octet st room b)
  unfolding line_octet
  line-ways = ways (line_step st.present.have st.present.left st.present.cr b) refl

pub line-taken-is : (st : State) (room : List ℕ) (b : ℕ) → is_line st.present st.control.end ≡ true → is_counted st ≡ true → line_taken st room b ≡ line_octet st room b
unfolding line_taken
line-taken-is st room b e f = rw (e, f)

-- ---- a room whose front did not change

module _ (c : Control) (room room' : List ℕ) (e : take c.end room' ≡ take c.end room) where
  pub fronted-still : (m : Piece) (p : PathRead) → Fronted c room m p → Fronted c room' m p
  fronted-still m p f = record {
    method = f.method ∙ sym (part-front room room' c.end 0 c.method e (omega (arith, f.inside.0)));
    path = f.path ∙ sym (part-front room room' c.end c.path c.pathlen e f.inside.1);
    prefix = f.prefix;
    inside = f.inside;
  }

  pub keeps-still : (g : Start) → Keeps c room g → Keeps c room' g
  keeps-still g k = record {
    m = k.m;
    a = k.a;
    p = k.p;
    start = k.start;
    front = fronted-still k.m k.p k.front;
    authority = k.authority ∙ sym (part-front room room' c.end c.host c.hostlen e k.inside);
    inside = k.inside;
    small = k.small;
  }
