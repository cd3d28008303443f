use mathlib.Core.Path.{refl}
use Rattle.binary_parts.proofs.Contents.{content-none, content-known, content-open}
use Rattle.binary_parts.proofs.content.read_content.Goals as goal

pub returns-then-s-from : goal.returns-then-s-from
returns-then-s-from c = content-none c.args.s.now _ _ c.requires.0 c.requires.3 c.if-s-from.true refl

pub returns-then-known : goal.returns-then-known
returns-then-known c = content-known c.args.s.now _ _ c.if-s-from.false c.if-known.true c.known_content.ensures

pub returns-else-known : goal.returns-else-known
returns-else-known c = content-open c.args.s.now _ _ c.if-s-from.false c.if-known.false c.open_content.ensures
