-- A request's head and what stands behind it, put together.
use Rattle.std.proofs.Common.{Err}
use Prim.Native.Nat.{ℕ, ◌+◌, ◌-◌, ◌≤◌}
use mathlib.Core.Path.{◌≡◌, refl, sym, ap, ap₂, ◌∙◌, subst}
use mathlib.Core.List.{List, [], ◌++◌}
use mathlib.Core.Bool.{true, false}
use native.Mathlib.Omega.{arith}
use lib.ListN.{length, take, drop, length-drop}
use lib.Seq.{length-take-le}
use Rattle.octets.specs.Limits.{head_most}
use Rattle.script.specs.Script.{Answer, accepted, refused, more, Says, run, Every}
use Rattle.script.specs.Do.{◌>>=◌, tell}
use Rattle.script.proofs.Sound.{sound, every_any}
use Rattle.script.proofs.Do.{every_bind, every-tell, every-then}
use Rattle.messages.specs.Message.{is_response, Message}
use Rattle.messages.specs.Names.{kept}
use Rattle.messages.specs.Answers.{fields_numbers, informational_lines, informational_in, part_at, part_of}
use Rattle.messages.specs.Rules.{target_authority, framing_of, request_body}
use Rattle.messages.specs.declared.Told.{Told}
use Rattle.messages.specs.Answers.{Outcome}
use Rattle.messages.specs.declared.Stop.{Stop}
use Rattle.http1_parts.specs.Stops.{stopped}
use Rattle.http1_lines.specs.Lines.{RequestRead}
use Rattle.http1_lines.specs.declared.RequestLine.{RequestLine}
use Rattle.http1_lines.specs.Read.{Lines, section, content, after_head}
use Rattle.sound.specs.Placed.{Each}
use Rattle.ranges.specs.Ranges.{Stores, OutcomeSays, Outcomed}
use Rattle.http1_parts.proofs.Outcomes.{lines_with, SectionDone, behind-done}
use Rattle.http1_parts.specs.Section.{Before}
use Rattle.http1_parts.specs.declared.Section.{Section}
use Rattle.http1_reader.specs.Readers.{request_is, HeadFacts, RestSays, RestRead}
use Rattle.http1_reader.proofs.Facts.{SectionFacts, section-facts}

-- an answer that equals another promises the same
pub outcomed-as : {x y : Answer Message} {hs hs' cs cs' ts ts' : List ℕ} {r : Outcome} → x ≡ y → OutcomeSays y hs hs' cs cs' ts ts' r → Outcomed x hs hs' cs cs' ts ts' r
outcomed-as {hs = hs} {hs' = hs'} {cs = cs} {cs' = cs'} {ts = ts} {ts' = ts'} {r = r} e h =
    record { says = subst (λ (z : Answer Message). OutcomeSays z hs hs' cs cs' ts ts' r) (sym e) h }

pub outcomed-is : {x y : Answer Message} {hs hs' cs cs' ts ts' : List ℕ} {r : Outcome} → x ≡ y → Outcomed y hs hs' cs cs' ts ts' r → Outcomed x hs hs' cs cs' ts ts' r
outcomed-is e h = outcomed-as e h.says

-- a reader that stops
pub outcomed-stopped : {x : Answer Message} {hs hs' cs cs' ts ts' : List ℕ} (e : Stop) → x ≡ stopped e → Outcomed x hs hs' cs cs' ts ts' (Err e)
outcomed-stopped (Stop.Refused e) q = outcomed-as q refl
outcomed-stopped Stop.More q = outcomed-as q refl

-- a message with the lines h of its one head
pub record OfRequest (h : Lines) (m : Message) : Type 0 where
  pub lines : m.lines ≡ h.lines
  pub request : is_response m.start ≡ false
  pub alone : informational_in m.start ≡ []

every_rest : (s : List ℕ) (t : Told) (q : RequestRead) (h : Lines) (at : ℕ) → Every s (λ n m. OfRequest h m) at (after_head t q h)
unfolding after_head
every_rest s t q h at =
    every_bind s _ at (tell (target_authority h.end q.authority h.lines)) _ (every-tell s _ _ (target_authority h.end q.authority h.lines) λ a u.
    every_bind s _ _ (tell (request_body h.end (framing_of h.lines))) _ (every-tell s _ _ (request_body h.end (framing_of h.lines)) λ b v.
    every-then s (λ n c. Unit {0}) _ _ (content b) _ (every_any s _ (content b)) λ n c w.
    record { lines = refl; request = refl; alone = refl }))

rest_of : (s : List ℕ) (t : Told) (q : RequestRead) (h : Lines) (e : ℕ) → e ≤ length s → Says (λ n m. OfRequest h m) (run (after_head t q h) e (drop e s))
rest_of s t q h e g =
    let l : length (take e s) ≡ e = length-take-le e s g in
    only (run (after_head t q h) e (drop e s)) (sound (λ n m. OfRequest h m) (after_head t q h) (take e s) (drop e s) e l (every_rest (take e s ++ drop e s) t q h e))
  where
    only : (x : Answer Message) → Says (λ n m. OfRequest h m × (e ≤ n) × (n ≤ e + length (drop e s))) x → Says (λ n m. OfRequest h m) x
    only (accepted n m) u = u.0
    only (refused n p) u = tt
    only more u = tt

-- with the header ranges that stand already
with-headers : (h : Lines) (x : Answer Message) (hs hs' cs cs' ts ts' : List ℕ) (r : Outcome) → Stores hs 0 (fields_numbers (kept false h.lines)) hs'
    → Says (λ n m. OfRequest h m) x → RestSays x cs cs' ts ts' r → OutcomeSays x hs hs' cs cs' ts ts' r
unfolding informational_lines
with-headers h (accepted n m) hs hs' cs cs' ts ts' r e u w = (w.0, rw (u.alone, u.request, u.lines) e, w.1, w.2)
with-headers h (refused n p) hs hs' cs cs' ts ts' r e u w = w
with-headers h more hs hs' cs cs' ts ts' r e u w = w

module _ (s : List ℕ) (l : RequestLine) (next : ℕ) (g : next ≤ length s) (k : l.method + 1 + (l.target.start + l.target.len) + 11 ≡ next)
    (i : l.method + 1 + (l.target.host + l.target.hostlen) + 2 ≤ next) (b : next ≤ head_most) where
  line-long : length (take (next - 2) s) ≡ next - 2
  line-long = length-take-le (next - 2) s (omega (arith, g))

  method-is : part_of (request_is s next l).method ≡ part_at 0 l.method
  method-is = ap (part_at 0) (length-take-le l.method (take (next - 2) s) (omega (arith, line-long, k)))

  path-is : part_of (request_is s next l).path.own ≡ part_at (l.method + 1 + l.target.start) l.target.len
  path-is =
      let z : 0 + (l.method + 1 + l.target.start) ≡ l.method + 1 + l.target.start = omega arith in
      let n = length-take-le l.target.len (drop (l.method + 1 + l.target.start) (take (next - 2) s)) (omega (arith, line-long, k, length-drop (l.method + 1 + l.target.start) (take (next - 2) s))) in
      ap₂ part_at z n

  named : l.method + 1 + (l.target.host + l.target.hostlen) + 2 ≤ next → length (request_is s next l).authority.text ≡ l.target.hostlen
  named h = length-take-le l.target.hostlen (drop (l.method + 1 + l.target.host) (take (next - 2) s)) (omega (arith, line-long, h, length-drop (l.method + 1 + l.target.host) (take (next - 2) s)))

  module _ {hs hs' : List ℕ} {r : Section} (d : SectionDone (run (section (head_most - next)) next (drop next s)) true false 0 hs hs' r) where
    abbrev pub head-lines : Lines
    head-lines = lines_with d.lines r.end r.left

    facts : SectionFacts s next (next + (head_most - next)) d.place head-lines
    facts = section-facts s next (head_most - next) d.place head-lines g d.taken

    place_is : d.place ≡ r.end
    place_is = sym facts.ended.end

    pub head-within : (r.end ≤ length s) × (r.end ≤ head_most)
    head-within = (omega (arith, place_is, facts.within), omega (arith, place_is, facts.ended.left, b))

    pub head-facts : HeadFacts s (request_is s next l) head-lines l r
    head-facts =
        record {
          method = method-is;
          prefix = refl;
          path = path-is;
          authority = omega arith;
          named = named (omega (arith, i));
          inside = omega (arith, i, place_is, facts.behind);
          end = refl;
          fields = omega (arith, d.counted);
          notes = d.noted;
          lie = facts.lie;
          before = subst (λ (x : ℕ). Each (Before x) d.lines) place_is facts.ended.before;
        }

    pub head_done : (t : Told) (cs cs' ts ts' : List ℕ) (o : Outcome) → RestRead s t l r cs cs' ts ts' o
        → Outcomed (run (section (head_most - next) >>= after_head t (request_is s next l)) next (drop next s)) hs hs' cs cs' ts ts' o
    head_done t cs cs' ts ts' o w =
        let q = request_is s next l in
        let f = behind-done (head_most - next) (after_head t q) s next d.place head-lines d.taken in
        let z = ap (λ (x : ℕ). run (after_head t q head-lines) x (drop x s)) place_is in
        outcomed-as (f ∙ z)
        (with-headers head-lines (run (after_head t q head-lines) r.end (drop r.end s)) hs hs' cs cs' ts ts' o d.stored (rest_of s t q head-lines r.end head-within.0) (w.by q head-lines head-facts))
