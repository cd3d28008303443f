use mathlib.Core.Path.{sym, ◌∙◌}
use native.Mathlib.Omega.{arith}
use lib.ListN.{drop, length-drop}
use Rattle.bundle.proofs.Heads.{head-flock, head-kind, head-long, head-cut, head-good, head-bad, lent-text}
use Rattle.bundle.proofs.entry.headed_entry.Goals as goal

pub returns-then-kind-ge2 : goal.returns-then-kind-ge2
returns-then-kind-ge2 c = head-kind (drop c.args.at c.args.s.now) c.args.word (sym c.is_flock.ensures ∙ c.if-is_flock.true) c.if-kind-ge2.true

pub returns-then-n-gt-BINARY : goal.returns-then-n-gt-BINARY
returns-then-n-gt-BINARY c = head-long (drop c.args.at c.args.s.now) c.args.word (sym c.is_flock.ensures ∙ c.if-is_flock.true) c.if-kind-ge2.false c.if-n-gt-BINARY.true

pub returns-then-s-at : goal.returns-then-s-at
returns-then-s-at c = head-cut (drop c.args.at c.args.s.now) c.args.word (sym c.is_flock.ensures ∙ c.if-is_flock.true) c.if-kind-ge2.false c.if-n-gt-BINARY.false (omega (arith, length-drop c.args.at c.args.s.now, c.if-s-at.true, c.requires.0))

pub returns-then-v-eq0 : goal.returns-then-v-eq0
returns-then-v-eq0 c = let q = lent-text c.args.s.now c.args.at c.args.word _ c.message_verdict-v.ensures in head-good (drop c.args.at c.args.s.now) c.args.word (sym c.is_flock.ensures ∙ c.if-is_flock.true) c.if-kind-ge2.false c.if-n-gt-BINARY.false (omega (arith, length-drop c.args.at c.args.s.now, c.if-s-at.false, c.requires.0)) (sym q ∙ c.if-v-eq0.true)

pub returns-then-is_flock : goal.returns-then-is_flock
returns-then-is_flock c = let q = lent-text c.args.s.now c.args.at c.args.word _ c.message_verdict-v.ensures in head-bad (drop c.args.at c.args.s.now) c.args.word (sym c.is_flock.ensures ∙ c.if-is_flock.true) c.if-kind-ge2.false c.if-n-gt-BINARY.false (omega (arith, length-drop c.args.at c.args.s.now, c.if-s-at.false, c.requires.0)) _ q c.if-v-eq0.false

pub returns : goal.returns
returns c = head-flock (drop c.args.at c.args.s.now) c.args.word (sym c.is_flock.ensures ∙ c.if-is_flock.false)
