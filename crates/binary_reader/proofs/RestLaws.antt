-- What stands behind a header section, stage by stage, as the code reads it.
use Prim.Native.Nat.{ℕ}
use mathlib.Core.Path.{◌≡◌, refl, sym, subst}
use mathlib.Core.Bool.{Bool, true, false, cond}
use mathlib.Core.List.{List}
use lib.ListN.{drop}
use Rattle.std.proofs.Common.{Option, Result, Ok, Err}
use Rattle.octets.specs.Refusals.{bad_length, refused_at}
use Rattle.octets.specs.declared.Refused.{Refused}
use Rattle.script.specs.Do.{Piece, good, wrong}
use Rattle.messages.specs.Message.{FieldRead, Section, Start, Message, counted_message}
use Rattle.messages.specs.declared.Framing.{Framing}
use Rattle.binary.specs.declared.Cursor.{Cursor}
use Rattle.binary.specs.Reader.{Got, got, no, ◌>>=◌}
use Rattle.binary.specs.declared.Form.{Form}
use Rattle.binary.specs.Read.{content, content_agrees, content_rule, trailers, padding, after_content, after_headers}
use Rattle.binary_parts.specs.Content.{Contented, Padded}
use Rattle.binary_parts.specs.declared.ContentRead.{ContentRead}
use Rattle.binary_parts.proofs.Contents.{content-no, content-done}
use Rattle.binary_parts.proofs.PaddingLaws.{padding-bad, padding-clean}
use Rattle.binary_reader.specs.Rest.{Trailed, RestIs, Behind, Rested}
use Rattle.binary_reader.specs.declared.TrailersRead.{TrailersRead}
use Rattle.binary_reader.specs.declared.RestRead.{RestRead}
use Rattle.binary_reader.proofs.Trailing.{trailed-refused, trailed-done}

-- an answer that equals another promises the same
rest-as : {s : List ℕ} {stated : Option ℕ} {start : Start} {lines : List FieldRead} {x y : Got Message} {cs cs' ts ts' : List ℕ} {r : Result RestRead Refused} → x ≡ y
    → RestIs s stated start lines y cs cs' ts ts' r → RestIs s stated start lines x cs cs' ts ts' r
rest-as {s} {stated} {start} {lines} {cs = cs} {cs' = cs'} {ts = ts} {ts' = ts'} {r = r} e h =
    subst (λ (z : Got Message). RestIs s stated start lines z cs cs' ts ts' r) (sym e) h

rest-no : {s : List ℕ} {stated : Option ℕ} {start : Start} {lines : List FieldRead} {x : Got Message} {cs cs' ts ts' : List ℕ} {e : Refused} → x ≡ no e.number e.place
    → RestIs s stated start lines x cs cs' ts ts' (Err e)
rest-no {e = e} h = rest-as {y = no e.number e.place} h (record { says = refl })

abbrev rest-is : ℕ → ℕ → ℕ → ℕ → Result RestRead Refused
rest-is chunks total trailers long = Ok (record { chunks = chunks; total = total; trailers = trailers; long = long })

same-rest : {a b c x y z n : ℕ} → a ≡ x → b ≡ y → c ≡ z → rest-is a b c n ≡ rest-is x y z n
same-rest e f g = rw (e, f, g)

-- ---- behind the content

trailers-then : (s : List ℕ) (from : Cursor) (form : Form) (body : Bool) (stated : Option ℕ) (start : Start) (lines : List FieldRead) (c : List Piece) {fs : List FieldRead} {end n : Cursor} {v : ℕ} {l : List ℕ}
    → trailers form body from (drop from.at s) ≡ got fs end (drop end.at s) → padding form end (drop end.at s) ≡ got v n l
    → after_content form body stated start lines c from (drop from.at s) ≡ got (counted_message end.long stated start lines c fs) n l
unfolding after_content ◌>>=◌
trailers-then s from form body stated start lines c e f = rw (e, f)

module _ (s : List ℕ) (c : ContentRead) (form : Form) (body : Bool) {ts ts' : List ℕ} {r : Result TrailersRead Refused}
    (h : Trailed s (trailers form body c.end (drop c.end.at s)) ts ts' r) where
  pub behind-no : {e : Refused} → r ≡ Err e → Behind s c form body ts ts' (Err e)
  unfolding after_content ◌>>=◌
  behind-no e = record { by = λ stated start lines c cs cs' a b g. rest-no (rw (trailed-refused h e)) }

  module _ {t : TrailersRead} (e : r ≡ Ok t) {q : Result (Unit {0}) Refused} (z : Padded s (padding form t.end (drop t.end.at s)) q) where
    pub behind-padding : {x : Refused} → q ≡ Err x → Behind s c form body ts ts' (Err x)
    unfolding after_content ◌>>=◌
    behind-padding f = record { by = λ stated start lines c cs cs' a b g. rest-no (rw ((trailed-done h e).taken, padding-bad z f)) }

    pub behind-done : {u : Unit {0}} → q ≡ Ok u → Behind s c form body ts ts' (rest-is c.chunks c.total t.kept t.end.long)
    behind-done f = let d = trailed-done h e in let w = padding-clean z f in
        record {
          by = λ stated start lines p cs cs' a b g.
              rest-as {y = got (counted_message t.end.long stated start lines p d.lines) w.end w.rest}
              (trailers-then s c.end form body stated start lines p d.taken w.taken)
              (record { says = (same-rest (sym a) (sym b) (sym d.counted), g, d.stored, refl, refl, w.whole, refl) });
        }

-- ---- the content

content-then : (s : List ℕ) (from : Cursor) (form : Form) (body : Bool) (f : Framing) (stated : Option ℕ) (start : Start) (h : Section) {c : List Piece} {end : Cursor}
    → content form.known from (drop from.at s) ≡ got c end (drop end.at s) → content_rule body f end.at c ≡ good c
    → after_headers form body stated start h f from (drop from.at s) ≡ after_content form body stated start h.lines c end (drop end.at s)
unfolding after_headers ◌>>=◌
content-then s from form body f stated start h e j = rw (e, j)

module _ (s : List ℕ) (from : Cursor) (form : Form) (body : Bool) (f : Framing) {cs cs' : List ℕ} {r : Result ContentRead Refused}
    (h : Contented s (content form.known from (drop from.at s)) cs cs' r) where
  pub rested-no : {x : Refused} {ts ts' : List ℕ} → r ≡ Err x → Rested s from form body f cs cs' ts ts' (Err x)
  unfolding after_headers ◌>>=◌
  rested-no e = record { by = λ stated start l. rest-no (rw (content-no h e)) }

  module _ {c : ContentRead} (e : r ≡ Ok c) {b : Bool} (a : b ≡ content_agrees f body c.total) where
    judged : {t : Bool} → b ≡ t → content_rule body f c.end.at (content-done h e).chunks ≡ cond t (good (content-done h e).chunks) (wrong bad_length c.end.at)
    unfolding content_rule
    judged g = rw ((content-done h e).sum, ← a, g)

    refused : (stated : Option ℕ) (start : Start) (l : Section) → b ≡ false → after_headers form body stated start l f from (drop from.at s) ≡ no bad_length c.end.at
    unfolding after_headers ◌>>=◌
    refused stated start l g = rw ((content-done h e).taken, judged g)

    pub rested-bad : {x : Refused} {ts ts' : List ℕ} → x ≡ refused_at bad_length c.end.at → b ≡ false → Rested s from form body f cs cs' ts ts' (Err x)
    rested-bad {ts = ts} {ts' = ts'} q g =
        subst (λ (x : Refused). Rested s from form body f cs cs' ts ts' (Err x)) (sym q) (record { by = λ stated start l. rest-no (refused stated start l g) })

    pub rested-on : {ts ts' : List ℕ} {o : Result RestRead Refused} → b ≡ true → Behind s c form body ts ts' o → Rested s from form body f cs cs' ts ts' o
    rested-on g w = let d = content-done h e in
        record {
          by = λ stated start l.
              rest-as (content-then s from form body f stated start l d.taken (judged g))
              (w.by stated start l.lines d.chunks cs cs' d.counted d.sum d.stored);
        }
