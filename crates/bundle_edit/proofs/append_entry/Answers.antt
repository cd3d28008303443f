use mathlib.Core.Path.{sym, ◌∙◌}
use Rattle.bundle_edit.proofs.Appends.{append-stops, append-full, append-flockless, append-served}
use Rattle.bundle_edit.proofs.append_entry.Goals as goal

pub returns-then-is_flock : goal.returns-then-is_flock
returns-then-is_flock c = append-served c.args.buf.now c.args.used c.args.flock c.args.message.now c.front_bundle-b.ensures c.if-b-eq0.true c.if-b-lt-ENTRIES.true (sym c.is_flock.ensures ∙ c.if-is_flock.true) c.put_entry.ensures

pub returns-then-b-lt-ENTRIES : goal.returns-then-b-lt-ENTRIES
returns-then-b-lt-ENTRIES c = rw c.at.ensures (append-flockless c.args.buf.now c.args.used c.args.flock c.args.message.now c.front_bundle-b.ensures c.if-b-eq0.true c.if-b-lt-ENTRIES.true (sym c.is_flock.ensures ∙ c.if-is_flock.false))

pub returns-then-b-eq0 : goal.returns-then-b-eq0
returns-then-b-eq0 c = rw c.at-then-b-eq0.ensures (append-full c.args.buf.now c.args.used c.args.flock c.args.message.now c.front_bundle-b.ensures c.if-b-eq0.true c.if-b-lt-ENTRIES.false)

pub returns : goal.returns
returns c = append-stops c.args.buf.now c.args.used c.args.flock c.args.message.now c.front_bundle-b.ensures c.if-b-eq0.false
