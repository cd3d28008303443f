-- Equal octets are equal meanings, part by part: what a part is read as is one thing, and so is what stands behind it. Assumes nothing.
use mathlib.Core.Path.{◌≡◌, refl, sym, ap, ◌∙◌}
use mathlib.Core.Bool.{Bool, true, false}
use mathlib.Core.List.{List, [], ◌∷◌, ◌++◌, append_assoc, map}
use Prim.Native.Nat.{ℕ, ◌≤◌, ◌<◌, min}
use native.Mathlib.Omega.{arith}
use borrow.Author.Tests.{leb-true}
use lib.Dec.{lit<}
use lib.ListN.{length}
use Rattle.std.proofs.Common.{Option, Some, None}
use Rattle.octets.specs.Limits.{lines_most, binary_most, stated_most}
use Rattle.octets.specs.Refusals.{cut_off}
use Rattle.octets.specs.Text.{same_text}
use Rattle.numbers.specs.Digits.{num_of, most}
use Rattle.numbers.specs.Integer.{integer_end, int_bytes}
use Rattle.numbers.proofs.DigitLaws.{decimal-round}
use Rattle.script.specs.Do.{Piece}
use Rattle.messages.specs.Control.{status_verdict, is_informational, passed}
use Rattle.messages.specs.Message.{Section}
use Rattle.messages.specs.Names.{kind_of}
use Rattle.messages.specs.Meaning.{Field, Informational, Control, request, response, Meaning, length_field, stated_fields}
use Rattle.messages.specs.Valid.{valid_fields, valid_section, valid_heads, valid_control, valid_stated, of_response, valid}
use Rattle.messages.proofs.Verdicts.{status-rule}
use Rattle.messages.proofs.Valid.{section-fields, section-few, first-ok, head_ok, response-ok, meaning-ok}
use Rattle.messages.proofs.ValidLines.{said}
use Rattle.messages.proofs.Stating.{LinesOk, fields-ok, stated-lines, stated-few, stated-ok}
use Rattle.binary.specs.Reader.{cursor, got, Reader}
use Rattle.binary.specs.Read.{RequestControl}
use Rattle.binary_writer.specs.Write.{counted, section_bytes, informational_bytes, binary_of, binary_fits}
use Rattle.binary_round_trip.specs.RoundTrip.{header_of, Unique}
use Rattle.binary_round_trip.proofs.Judgement.{Reads, reads-integer}
use Rattle.binary_round_trip.proofs.Parts.{reads-part, reads-request}
use Rattle.binary_round_trip.proofs.Lines.{both-fit, counted-fits, reads_section}
use Rattle.binary_round_trip.proofs.Keeping.{lines-say}
use Rattle.binary_round_trip.proofs.Messages.{tail_bytes}
use Rattle.binary_round_trip.proofs.Back.{control_rest, indicator_of, binary-bytes, Fits, fits-of}

-- ---- equal parts are equal wholes

abbrev head_of : ℕ → List Field → Informational
head_of n fs = record { status = n; fields = fs }

same_head : {n k : ℕ} {fs gs : List Field} → n ≡ k → fs ≡ gs → head_of n fs ≡ head_of k gs
same_head e f = cc

same-heads : {h j : Informational} {hs ks : List Informational} → h ≡ j → hs ≡ ks → h ∷ hs ≡ j ∷ ks
same-heads e f = cc

same-request : {m n : List ℕ} {s t : ℕ} {a b p q : List ℕ} → m ≡ n → s ≡ t → a ≡ b → p ≡ q → request m s a p ≡ request n t b q
same-request e f g h = cc

same-response : {hs ks : List Informational} {n k : ℕ} → hs ≡ ks → n ≡ k → response hs n ≡ response ks k
same-response e f = cc

abbrev made : Control → List Field → List ℕ → List Field → Option ℕ → Meaning
made c fs b ts x = record { control = c; headers = fs; content = b; trailers = ts; stated = x }

same-meaning : {c d : Control} {fs gs : List Field} {a b : List ℕ} {ts us : List Field} {x y : Option ℕ}
    → c ≡ d → fs ≡ gs → a ≡ b → ts ≡ us → x ≡ y → made c fs a ts x ≡ made d gs b us y
same-meaning e f g h k = cc

-- ---- parts

-- what one reader reads at one place, of octets with others behind them
reads-apart : {A : Type 0} {r : Reader A} {at : ℕ} {x y p q : List ℕ} {a b : A} → Reads r at x p a → Reads r at y q b → x ++ p ≡ y ++ q → (a ≡ b) × (p ≡ q)
reads-apart {r = r} {at} {x} {y} {p} {q} {a} {b} h g e =
    let z : got a _ p ≡ got b _ q = sym h.go ∙ ap (r (cursor at 0)) e ∙ g.go in
    (cc, cc)

int-apart : (v w : ℕ) (x y : List ℕ) → v < integer_end → w < integer_end → int_bytes v ++ x ≡ int_bytes w ++ y → (v ≡ w) × (x ≡ y)
int-apart v w x y h g e = reads-apart (reads-integer cut_off 0 0 v x h) (reads-integer cut_off 0 0 w y g) e

counted-apart : (v w x y : List ℕ) → length v ≤ binary_most → length w ≤ binary_most → counted v ++ x ≡ counted w ++ y → (v ≡ w) × (x ≡ y)
counted-apart v w x y h g e =
    let z = reads-apart (reads-part 0 v x (omega arith)) (reads-part 0 w y (omega arith)) e in
    (ap (λ (c : Piece). c.text) z.0, z.1)

-- a section that can be written
record SectionOk (fs : List Field) : Type 0 where
  lines : LinesOk fs
  few : length fs ≤ lines_most
  fit : length (section_bytes fs) ≤ binary_most

section-apart : (fs gs : List Field) (x y : List ℕ) → SectionOk fs → SectionOk gs → section_bytes fs ++ x ≡ section_bytes gs ++ y → (fs ≡ gs) × (x ≡ y)
section-apart fs gs x y f g e =
    let z = reads-apart (reads_section fs 0 x f.lines f.few f.fit) (reads_section gs 0 y g.lines g.few g.fit) e in
    (sym (lines-say fs _) ∙ ap (λ (h : Section). map said h.lines) z.0 ∙ lines-say gs _, z.1)

-- ---- a header, with a stated length or without

-- a number has one way to be written
number_of : Option ℕ → ℕ
number_of (Some n) = n
number_of None = 0

lengths-apart : (n k : ℕ) → n ≤ stated_most → k ≤ stated_most → length_field n ≡ length_field k → n ≡ k
unfolding length_field number_of
lengths-apart n k h g e =
    let z : num_of 10 (length_field n).value ≡ num_of 10 (length_field k).value = ap (λ (f : Field). num_of 10 f.value) e in
    let q : Some (min n most) ≡ Some (min k most) = sym (decimal-round n (omega arith)) ∙ z ∙ decimal-round k (omega arith) in
    let w : min n most ≡ min k most = ap number_of q in
    omega arith

-- no valid field is a length
no-length-field : (host : Bool) (n : ℕ) (fs : List Field) → valid_fields host (length_field n ∷ fs) ≡ true → ⊥
unfolding length_field kind_of same_text
no-length-field host n fs v =
    let o = (first-ok host (length_field n) fs v).0.passed in
    let z : ◌≡◌ {A = ℕ} 0 1 = cc in
    omega arith

header-apart : (host : Bool) (x y : Option ℕ) (l m : Meaning) (fs gs : List Field) → valid_stated x l ≡ true → valid_stated y m ≡ true
    → valid_fields host fs ≡ true → valid_fields host gs ≡ true → stated_fields x ++ fs ≡ stated_fields y ++ gs → (x ≡ y) × (fs ≡ gs)
header-apart host None None l m fs gs s t v w e = (refl, e)
header-apart host None (Some k) l m fs gs s t v w e = absurd (no-length-field host k gs (rw e at v))
header-apart host (Some n) None l m fs gs s t v w e = absurd (no-length-field host n fs (rw (sym e) at w))
header-apart host (Some n) (Some k) l m fs gs s t v w e =
    let z : length_field n ≡ length_field k = cc in
    (ap (λ (i : ℕ). Some i) (lengths-apart n k (stated-ok n l s).small (stated-ok k m t).small z), cc)

-- ---- informational heads and the final status

status-small : (n : ℕ) → status_verdict n ≡ passed → n < integer_end
status-small n e = omega (arith, status-rule n e)

fields-sound : (host : Bool) (fs : List Field) → valid_section host fs ≡ true → length (section_bytes fs) ≤ binary_most → SectionOk fs
fields-sound host fs v h = record { lines = fields-ok host fs (section-fields host fs v); few = section-few host fs v; fit = h }

-- an informational status is no final one
early-late : (n k : ℕ) → is_informational n ≡ true → is_informational k ≡ false → n ≡ k → ⊥
early-late n k e l q = let z : ◌≡◌ {A = ℕ} 0 1 = cc in omega arith

module _ (n k : ℕ) (u : status_verdict n ≡ passed) (v : status_verdict k ≡ passed) (late : is_informational n ≡ false) (after : is_informational k ≡ false)
    (x y : List ℕ) where
  heads-apart : (hs ks : List Informational) → valid_heads hs ≡ true → valid_heads ks ≡ true
      → length (informational_bytes hs) ≤ binary_most → length (informational_bytes ks) ≤ binary_most
      → informational_bytes hs ++ (int_bytes n ++ x) ≡ informational_bytes ks ++ (int_bytes k ++ y) → (hs ≡ ks) × (n ≡ k) × (x ≡ y)
  unfolding informational_bytes
  heads-apart [] [] a b f g e = let z = int-apart n k x y (status-small n u) (status-small k v) e in (refl, z.0, z.1)
  heads-apart [] (j ∷ ks) a b f g e =
      let o = (head_ok j ks b).0 in
      let i : List ℕ = int_bytes j.status in
      let s : List ℕ = section_bytes j.fields in
      let r : List ℕ = informational_bytes ks in
      let q : int_bytes n ++ x ≡ i ++ (s ++ (r ++ (int_bytes k ++ y))) =
      e ∙ append_assoc (i ++ s) r (int_bytes k ++ y) ∙ append_assoc i s (r ++ (int_bytes k ++ y)) in
      let z = int-apart n j.status x _ (status-small n u) (status-small j.status o.status) q in
      absurd (early-late j.status n o.early late (sym z.0))
  heads-apart (h ∷ hs) [] a b f g e =
      let o = (head_ok h hs a).0 in
      let i : List ℕ = int_bytes h.status in
      let s : List ℕ = section_bytes h.fields in
      let r : List ℕ = informational_bytes hs in
      let q : int_bytes k ++ y ≡ i ++ (s ++ (r ++ (int_bytes n ++ x))) =
      sym e ∙ append_assoc (i ++ s) r (int_bytes n ++ x) ∙ append_assoc i s (r ++ (int_bytes n ++ x)) in
      let z = int-apart k h.status y _ (status-small k v) (status-small h.status o.status) q in
      absurd (early-late h.status k o.early after (sym z.0))
  heads-apart (h ∷ hs) (j ∷ ks) a b f g e =
      let o = head_ok h hs a in
      let p = head_ok j ks b in
      let i : List ℕ = int_bytes h.status in
      let s : List ℕ = section_bytes h.fields in
      let r : List ℕ = informational_bytes hs ++ (int_bytes n ++ x) in
      let i' : List ℕ = int_bytes j.status in
      let s' : List ℕ = section_bytes j.fields in
      let r' : List ℕ = informational_bytes ks ++ (int_bytes k ++ y) in
      let q : i ++ (s ++ r) ≡ i' ++ (s' ++ r') =
      sym (append_assoc i s r) ∙ sym (append_assoc (i ++ s) (informational_bytes hs) (int_bytes n ++ x)) ∙ e
      ∙ append_assoc (i' ++ s') (informational_bytes ks) (int_bytes k ++ y) ∙ append_assoc i' s' r' in
      let bf = both-fit (i ++ s) (informational_bytes hs) f in
      let bg = both-fit (i' ++ s') (informational_bytes ks) g in
      let z = int-apart h.status j.status (s ++ r) (s' ++ r') (status-small _ o.0.status) (status-small _ p.0.status) q in
      let sh = fields-sound true h.fields o.0.fields (both-fit i s bf.0).1 in
      let sj = fields-sound true j.fields p.0.fields (both-fit i' s' bg.0).1 in
      let w = section-apart h.fields j.fields r r' sh sj z.1 in
      let t = heads-apart hs ks o.1 p.1 bf.1 bg.1 w.1 in
      let c : h ≡ j = same_head z.0 w.0 in
      (same-heads c t.0, t.1, t.2)

-- ---- control data

-- of control data with a framing indicator in front, and others behind them
control-apart : (c d : Control) (x y : List ℕ) → valid_control c ≡ true → valid_control d ≡ true
    → length (control_rest c) ≤ binary_most → length (control_rest d) ≤ binary_most
    → int_bytes (indicator_of c) ++ (control_rest c ++ x) ≡ int_bytes (indicator_of d) ++ (control_rest d ++ y) → (c ≡ d) × (x ≡ y)
control-apart (request m s a p) (request m' s' a' p') x y u v f g e =
    let z = reads-apart (reads-request m a p s 0 x u) (reads-request m' a' p' s' 0 y v) (int-apart 0 0 _ _ (lit< tt) (lit< tt) e).1 in
    let c = same-request (ap (λ (q : RequestControl). q.method.text) z.0) (ap (λ (q : RequestControl). q.scheme) z.0)
    (ap (λ (q : RequestControl). q.authority.text) z.0) (ap (λ (q : RequestControl). q.path.text) z.0) in
    (c, z.1)
control-apart (request m s a p) (response ks k) x y u v f g e = let z = (int-apart 0 1 _ _ (lit< tt) (lit< tt) e).0 in absurd (omega arith)
control-apart (response hs n) (request m s a p) x y u v f g e = let z = (int-apart 1 0 _ _ (lit< tt) (lit< tt) e).0 in absurd (omega arith)
control-apart (response hs n) (response ks k) x y u v f g e =
    let o = response-ok hs n u in
    let p = response-ok ks k v in
    let h = informational_bytes hs in
    let j = informational_bytes ks in
    let q = sym (append_assoc h (int_bytes n) x) ∙ (int-apart 1 1 _ _ (lit< tt) (lit< tt) e).1 ∙ append_assoc j (int_bytes k) y in
    let fh = (both-fit h (int_bytes n) f).0 in
    let fj = (both-fit j (int_bytes k) g).0 in
    let z = heads-apart n k o.status p.status o.late p.late x y hs ks o.heads p.heads fh fj q in
    (same-response z.0 z.1, z.2)

-- ---- whole meanings

header-sound : (m : Meaning) → valid m ≡ true → length (section_bytes (header_of m)) ≤ binary_most → SectionOk (header_of m)
header-sound m v h =
    let o = meaning-ok m v in
    let host = of_response m.control in
    record {
      lines = stated-lines m.stated m.headers (fields-ok host m.headers (section-fields host m.headers o.headers));
      few = stated-few m (section-few host m.headers o.headers) o.stated;
      fit = h;
    }

tail_apart : (l m : Meaning) → valid l ≡ true → valid m ≡ true → Fits l → Fits m → tail_bytes l ≡ tail_bytes m
    → (header_of l ≡ header_of m) × (l.content ≡ m.content) × (l.trailers ≡ m.trailers)
tail_apart l m vl vm fl fm e =
    let ol = meaning-ok l vl in
    let om = meaning-ok m vm in
    let h = section-apart (header_of l) (header_of m) _ _ (header-sound l vl fl.headers) (header-sound m vm fm.headers) e in
    let c = counted-apart l.content m.content _ _ (counted-fits l.content fl.content) (counted-fits m.content fm.content) h.1 in
    let sl = fields-sound false l.trailers ol.trailers fl.trailers in
    let sm = fields-sound false m.trailers om.trailers fm.trailers in
    let t = section-apart l.trailers m.trailers [] [] sl sm (ap (λ (w : List ℕ). w ++ []) c.1) in
    (h.0, c.0, t.0)

pub unique : Unique
unfolding binary_fits
unique = λ l m vl fl vm fm e.
    let ol = meaning-ok l vl in
    let om = meaning-ok m vm in
    let kl = fits-of l (leb-true (length (binary_of l)) binary_most fl) in
    let km = fits-of m (leb-true (length (binary_of m)) binary_most fm) in
    let c = control-apart l.control m.control (tail_bytes l) (tail_bytes m) ol.control om.control kl.control km.control
    (sym (binary-bytes l) ∙ e ∙ binary-bytes m) in
    let t = tail_apart l m vl vm kl km c.1 in
    let host : Bool = of_response l.control in
    let w : valid_fields host m.headers ≡ true = rw c.0 (section-fields (of_response m.control) m.headers om.headers) in
    let v : valid_fields host l.headers ≡ true = section-fields host l.headers ol.headers in
    let h = header-apart host l.stated m.stated l m l.headers m.headers ol.stated om.stated v w t.0 in
    same-meaning c.0 h.1 t.1 t.2 h.0
