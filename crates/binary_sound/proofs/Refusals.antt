-- What the reader of Binary HTTP refuses with, and where.
use Prim.Native.Nat.{ℕ, zero, suc, ◌+◌, ◌≤◌}
use mathlib.Core.Path.{◌≡◌, refl, subst}
use mathlib.Core.Bool.{Bool, true, false, cond}
use mathlib.Core.List.{List, [], ◌∷◌, ◌++◌}
use native.Mathlib.Omega.{arith}
use lib.Dec.{ltb, leb, eqb}
use lib.ListN.{length}
use Rattle.std.proofs.Common.{Option, None}
use Rattle.octets.specs.Ascii.{ascii}
use Rattle.octets.specs.Limits.{method_most, authority_most, path_most, lines_most, chunks_most, content_most, binary_most, informational_most}
use Rattle.octets.specs.Refusals.{bad_syntax, not_supported, bad_length, too_large, cut_off, bad_section, bad_padding, bad_edition}
use Rattle.octets.specs.Text.{same_text}
use Rattle.octets.proofs.Kit.{either, into}
use Rattle.script.specs.Script.{refused, Settled}
use Rattle.script.specs.Do.{Piece, piece, good, wrong}
use Rattle.script.proofs.Places.{lies-all, lies_in}
use Rattle.messages.specs.Message.{FieldRead, Section, InformationalRead, Start, Message}
use Rattle.messages.specs.Control.{method_verdict, path_verdict, authority_verdict, status_verdict, is_informational, ends_at_head, is_lower_name, is_options}
use Rattle.messages.specs.Meaning.{content_of}
use Rattle.messages.specs.Names.{are_trailers, kept_trailers}
use Rattle.messages.specs.Rules.{authority_in, binary_framing_of, nothing_stated, bodyless_rule, may_state, stated_in}
use Rattle.messages.specs.declared.Framing.{Framing}
use Rattle.messages.specs.declared.Framing.TheVariants.{Unstated}
use Rattle.messages.specs.declared.Told.{Told}
use Rattle.messages.specs.Told.{is_edition}
use Rattle.binary.specs.Reader.{Got, got, no, cursor, Reader}
use Rattle.binary.specs.declared.Form.{Form}
use Rattle.binary.specs.declared.Cursor.{Cursor}
use Rattle.binary.specs.Read.{part, part_within, ruled_part, scheme_of, scheme_part, after_scheme, request_control, is_line_value, judged_line, cut_number, cut_place, after_name_length, known_line, known_lines, on_body, body_lines, known_section, open_lines, section, header_section}
use Rattle.binary.specs.Read.{known_content, open_chunks, content, content_agrees, content_rule, trailers_agree, trailer_rule, trailers, padding, after_content, after_headers}
use Rattle.binary.specs.Read.{after_head, after_control, request_message, after_final, after_final_status, after_informational, after_informational_status, heads}
use Rattle.binary.specs.Read.{after_indicator, message, message_answer, read_sized, read_binary}
use Rattle.sound.specs.Placed.{Each}
use Rattle.sound.specs.Refusal.{is_one_of, Refusal}
use Rattle.sound.proofs.Each.{each_snoc}
use Rattle.sound.proofs.Refusals.{Among, among, common_numbers, status_numbers, CommonVerdict, method-verdict, path-verdict, authority-verdict, status-verdict, not_good, NamedIn, binary-framing-in, Refuses, refusal}
use Rattle.sound.proofs.Refusals.{authority-judged, nothing-judged, may-judged, bodyless-judged}
use Rattle.binary_sound.proofs.Judgement.{Stands, stands_on, Ends, Stops, stops-give, stops-refuse, stops-here, stops-longs, stops-ended, stops-tell, stops-rule, stops-if, stops-integer, stops-octets, stops-bind, stops_then}
use Rattle.binary_sound.proofs.Parts.{PartAt}
use Rattle.binary_sound.proofs.Lines.{no-wrong}
use Rattle.binary_sound.specs.Sound.{edition_numbers, binary_numbers, EditionRefused, OtherEdition, BinaryRefused, BinarySettled}
use Rattle.octets.specs.Refusals.{refusal_number}
use Rattle.messages.specs.Control.{Verdict}

-- ---- numbers of Binary HTTP

-- the numbers that both forms have are among them
wide : Among common_numbers edition_numbers
wide = among common_numbers edition_numbers (refl, (refl, (refl, (refl, tt))))

status-wide : Among status_numbers edition_numbers
status-wide = among status_numbers edition_numbers (refl, (refl, tt))

module _ {s : List ℕ} where
  at_place : {n p : ℕ} → is_one_of edition_numbers n ≡ true → p ≤ length s → Refusal edition_numbers s n p
  at_place h i = record { of_form = h; inside = i }

  bad-syntax : {p : ℕ} → p ≤ length s → Refusal edition_numbers s bad_syntax p
  bad-syntax = at_place refl

  bad-length : {p : ℕ} → p ≤ length s → Refusal edition_numbers s bad_length p
  bad-length = at_place refl

  too-large : {p : ℕ} → p ≤ length s → Refusal edition_numbers s too_large p
  too-large = at_place refl

  cut-off : {p : ℕ} → p ≤ length s → Refusal edition_numbers s cut_off p
  cut-off = at_place refl

  bad-section : {p : ℕ} → p ≤ length s → Refusal edition_numbers s bad_section p
  bad-section = at_place refl

  -- of a line that is cut off in either kind of section
  cut-value : (form : Form) {p q : ℕ} → p ≤ length s → q ≤ length s → Refusal edition_numbers s (cut_number form) (cut_place form p q)
  cut-value form {p} {q} i j = on form.known
    where
      on : (known : Bool) → Refusal edition_numbers s (cond known bad_section cut_off) (cond known p q)
      on true = bad-section i
      on false = cut-off j

  cut-name : (form : Form) {p : ℕ} → p ≤ length s → Refusal edition_numbers s (cut_number form) p
  cut-name form {p} i = on form.known
    where
      on : (known : Bool) → Refusal edition_numbers s (cond known bad_section cut_off) p
      on true = bad-section i
      on false = cut-off i

-- ---- rules

module _ (s : List ℕ) (p : ℕ) (i : p ≤ length s) where
  scheme-judged : (w : List ℕ) → Refuses edition_numbers s (scheme_of w p)
  unfolding scheme_of
  scheme-judged w =
      either (Refuses edition_numbers s) (same_text w (ascii "http")) (good 0) _ (λ a. tt)
      (λ a. either (Refuses edition_numbers s) (same_text w (ascii "https")) (good 1) (wrong not_supported p) (λ b. tt) (λ b. at_place refl i))

  line-judged : (form : Form) (n v : Piece) → Refuses edition_numbers s (judged_line form p n v)
  unfolding judged_line
  line-judged form n v =
      either (Refuses edition_numbers s) (is_lower_name n.text) _ (wrong bad_syntax p)
      (λ a. either (Refuses edition_numbers s) (is_line_value form v.text) _ (wrong bad_syntax p) (λ b. tt) (λ b. bad-syntax i))
      (λ a. bad-syntax i)

  -- a good line's place is its own
  line-placed : (form : Form) (n v : Piece) (f : FieldRead) → judged_line form p n v ≡ good f → NamedIn (length s) f
  unfolding judged_line
  line-placed form n v f e =
      let a = into no-wrong (is_lower_name n.text) _ e in
      let b = into no-wrong (is_line_value form v.text) _ a.1 in
      let r : FieldRead = record { name = n; value = v; place = p } in
      let z : r ≡ f = cc in
      subst (NamedIn (length s)) z i

  content-judged : (body : Bool) (f : Framing) (cs : List Piece) → Refuses edition_numbers s (content_rule body f p cs)
  unfolding content_rule
  content-judged body f cs =
      either (Refuses edition_numbers s) (content_agrees f body (length (content_of cs))) (good cs) (wrong bad_length p) (λ a. tt) (λ a. bad-length i)

trailer-judged : (s : List ℕ) (body : Bool) (h : Section) → h.end ≤ length s → Refuses edition_numbers s (trailer_rule body h)
unfolding trailer_rule
trailer-judged s body h i =
    either (Refuses edition_numbers s) (trailers_agree (are_trailers h.lines) body (length (kept_trailers h.lines))) (good h.lines) (wrong bad_length h.end)
    (λ a. tt) (λ a. bad-length i)

-- ---- parts and control data

-- a reader refuses the input s with nothing but numbers of Binary HTTP, at places of the input, and gets nothing but what P holds of
abbrev Refusing : {A : Type 0} → List ℕ → ℕ → (Cursor → A → Type 0) → Cursor → Reader A → Type 0
Refusing s e P at r = Stops s e (Refusal edition_numbers s) P at r

module _ {s : List ℕ} {e : ℕ} where
  -- on both sides of a test
  stops-both : {A : Type 0} {R : ℕ → ℕ → Type 0} {P : Cursor → A → Type 0} {at : Cursor} {x y : Reader A} (t : Bool) → Stops s e R P at x → Stops s e R P at y
      → Stops s e R P at (cond t x y)
  stops-both t f g = stops-if t (λ a. f) (λ a. g)

  stops-part : {at : Cursor} → Refusing s e (λ n p. PartAt s n p) at part
  unfolding part
  stops-part =
      stops-bind _ (stops-here λ p.
      stops-bind _ (stops-integer _ _ (cut-off p) λ j n.
      stops-octets n _ _ (cut-off p) λ w k y f. record { lies = y; ends = omega (arith, k); few = f }))

  stops-within : {at : Cursor} (most : ℕ) → Refusing s e (λ n p. Unit {0}) at (part_within most)
  unfolding part_within
  stops-within most =
      stops-bind _ (stops-here λ p.
      stops-bind _ (stops-integer _ _ (cut-off p) λ j n.
      stops-both (leb n most) (stops-octets n _ _ (cut-off p) λ w k y f. tt) (stops-refuse (too-large p))))

  stops-ruled : {at : Cursor} (most : ℕ) (verdict : List ℕ → Verdict) → ((w : List ℕ) → CommonVerdict (verdict w))
      → Refusing s e (λ n p. Unit {0}) at (ruled_part most verdict)
  unfolding ruled_part
  stops-ruled most verdict h =
      stops-bind _ (stops-here λ i.
      stops_then _ (stops-within most) λ j w z.
      stops-rule (verdict w.text) _ w (λ r a. refusal wide (not_good common_numbers (h w.text) a) i) λ a. tt)

  stops-scheme : {at : Cursor} → Refusing s e (λ n v. Unit {0}) at scheme_part
  unfolding scheme_part
  stops-scheme =
      stops-bind _ (stops-here λ i.
      stops_then _ stops-part λ j w z.
      stops-tell (scheme_of w.text _) (scheme-judged s _ i w.text) λ x q. tt)

  stops-control : {at : Cursor} → Refusing s e (λ n q. Unit {0}) at request_control
  unfolding request_control after_scheme
  stops-control =
      stops_then _ (stops-ruled method_most method_verdict method-verdict) λ i m a.
      stops_then _ stops-scheme λ j v b.
      stops_then _ (stops-ruled authority_most authority_verdict authority-verdict) λ k h c.
      stops_then _ (stops-ruled path_most (path_verdict (is_options m.text)) (path-verdict (is_options m.text))) λ l p d.
      stops-give tt

  -- ---- sections

  stops-name : {at : Cursor} (form : Form) (p a : ℕ) → p ≤ length s → Refusing s e (λ n f. NamedIn (length s) f) at (after_name_length form p a)
  unfolding after_name_length
  stops-name form p a i =
      stops-bind _ (stops-octets a _ _ (cut-name form i) λ w k y o.
      stops-bind _ (stops-here λ j.
      stops-bind _ (stops-integer _ _ (cut-value form i j) λ l b.
      stops-bind _ (stops-octets b _ _ (cut-value form i j) λ u m z o.
      stops-tell (judged_line form p _ _) (line-judged s p i form _ _) λ x q. line-placed s p i form _ _ x q))))

  stops-known-line : {at : Cursor} (form : Form) → Refusing s e (λ n f. NamedIn (length s) f) at (known_line form)
  unfolding known_line
  stops-known-line form =
      stops-bind _ (stops-here λ p.
      stops-bind _ (stops-integer _ _ (bad-section p) λ j a.
      stops-both (eqb a 0) (stops-refuse (bad-section p)) (stops-name form _ a p)))

  stops-known-lines : (form : Form) (f : ℕ) {at : Cursor} (fs : List FieldRead) → Each (NamedIn (length s)) fs → Refusing s e (λ n h. Each (NamedIn (length s)) h) at (known_lines form f fs)
  unfolding known_lines
  stops-known-lines form zero fs g = stops-refuse (too-large (omega arith))
  stops-known-lines form (suc f) fs g =
      stops-bind _ (stops-ended λ b.
      stops-bind _ (stops-here λ i.
      stops-both b (stops-give g)
      (stops-both (leb lines_most (length fs)) (stops-refuse (too-large i))
      (stops_then _ (stops-known-line form) λ j x z.
      stops-known-lines form f (fs ++ x ∷ []) (each_snoc (NamedIn (length s)) fs x g z)))))

  stops-open-lines : (form : Form) (f : ℕ) {at : Cursor} (fs : List FieldRead) → Each (NamedIn (length s)) fs → Refusing s e (λ n h. Each (NamedIn (length s)) h) at (open_lines form f fs)
  unfolding open_lines
  stops-open-lines form zero fs g = stops-refuse (too-large (omega arith))
  stops-open-lines form (suc f) fs g =
      stops-bind _ (stops-here λ p.
      stops-bind _ (stops-integer _ _ (cut-off p) λ j a.
      stops-both (eqb a 0) (stops-give g)
      (stops-both (leb lines_most (length fs)) (stops-refuse (too-large p))
      (stops_then _ (stops-name form _ a p) λ k x z.
      stops-open-lines form f (fs ++ x ∷ []) (each_snoc (NamedIn (length s)) fs x g z)))))

-- the body is a part of the input: places inside it are places of the input
stops-body : {s : List ℕ} {e : ℕ} {at : Cursor} (form : Form) (b : Piece) → PartAt s at b → Refusing s e (λ n h. Each (NamedIn (length s)) h) at (body_lines form b)
unfolding body_lines
stops-body {s} {e} {at} form b y =
    record {
      go = λ l z.
          on l z (known_lines form (suc lines_most) [] (cursor b.place at.long) b.text)
          ((stops-known-lines {e = b.place + length b.text} form (suc lines_most) [] tt).go b.text (record { lies = y.lies; ends = refl; few = y.few }));
    }
  where
    on : (l : List ℕ) → Stands s e at l → (x : Got (List FieldRead))
        → Ends (Refusal edition_numbers s) (λ n i h. Stands s (b.place + length b.text) n i × Each (NamedIn (length s)) h) x
        → Ends (Refusal edition_numbers s) (λ n i h. Stands s e n i × Each (NamedIn (length s)) h) (on_body x at l)
    on l z (got fs n i) g = (record { lies = z.lies; ends = z.ends; few = omega (arith, g.0.few, g.0.ends, y.ends) }, g.1)
    on l z (no n p) g = g

padded : (form : Form) (s : List ℕ) (e : ℕ) (at : Cursor) (l : List ℕ) → Stands s e at l → Ends (Refusal edition_numbers s) (λ n i z. Stands s e n i × Unit {0}) (padding form at l)
unfolding padding
padded form s e at [] y = (y, tt)
padded form s e at (b ∷ l) y =
    either (Ends (Refusal edition_numbers s) (λ n i z. Stands s e n i × Unit {0})) (cond form.padded (eqb b 0) false) (padding form (cursor (at.at + 1) at.long) l) (no bad_padding at.at)
    (λ a. padded form s e (cursor (at.at + 1) at.long) l (stands_on 1 (omega arith) y)) (λ a. at_place refl (omega (arith, lies_in y.lies)))

-- a section ends in the input, and its lines begin in it
record SectionIn (s : List ℕ) (h : Section) : Type 0 where
  end : h.end ≤ length s
  lines : Each (NamedIn (length s)) h.lines

module _ {s : List ℕ} {e : ℕ} where
  stops-known-section : {at : Cursor} (form : Form) → Refusing s e (λ n h. Each (NamedIn (length s)) h) at (known_section form)
  unfolding known_section
  stops-known-section form = stops_then _ stops-part λ i b y. stops-body form b y

  stops-section : {at : Cursor} (form : Form) → Refusing s e (λ n h. SectionIn s h) at (section form)
  unfolding section
  stops-section form =
      stops_then _ (stops-both form.known (stops-known-section form) (stops-open-lines form (suc lines_most) [] tt)) λ i fs z.
      stops-bind _ (stops-here λ j. stops-give (record { end = j; lines = z }))

  stops-header : {at : Cursor} (form : Form) → Refusing s e (λ n h. SectionIn s h) at (header_section form)
  unfolding header_section
  stops-header form =
      stops-bind _ (stops-ended λ b.
      stops-bind _ (stops-here λ j.
      stops-both (cond b form.headless false) (stops-give (record { end = j; lines = tt })) (stops-section form)))

  -- ---- content, trailers, padding

  stops-known-content : {at : Cursor} → Refusing s e (λ n cs. Unit {0}) at known_content
  unfolding known_content
  stops-known-content = stops_then _ (stops-within content_most) λ i c z. stops-give tt

  stops-chunks : (f : ℕ) {at : Cursor} (cs : List Piece) (total : ℕ) → Refusing s e (λ n c. Unit {0}) at (open_chunks f cs total)
  unfolding open_chunks
  stops-chunks zero cs total = stops-refuse (too-large (omega arith))
  stops-chunks (suc f) cs total =
      stops-bind _ (stops-here λ p.
      stops-bind _ (stops-integer _ _ (cut-off p) λ j n.
      stops-both (eqb n 0) (stops-give tt)
      (stops-both (leb chunks_most (length cs)) (stops-refuse (too-large p))
      (stops-both (ltb content_most (total + n)) (stops-refuse (too-large p))
      (stops-bind _ (stops-octets n _ _ (cut-off p) λ w k y o.
      stops-chunks f (cs ++ piece j.at w ∷ []) (total + n)))))))

  stops-content : {at : Cursor} (known : Bool) → Refusing s e (λ n cs. Unit {0}) at (content known)
  unfolding content
  stops-content known =
      stops-bind _ (stops-ended λ b.
      stops-both b (stops-give tt) (stops-both known stops-known-content (stops-chunks (suc chunks_most) [] 0)))

  stops-trailers : {at : Cursor} (form : Form) (body : Bool) → Refusing s e (λ n ts. Unit {0}) at (trailers form body)
  unfolding trailers
  stops-trailers form body =
      stops-bind _ (stops-ended λ b.
      stops-both b (stops-give tt)
      (stops_then _ (stops-section form) λ i h g.
      stops-tell (trailer_rule body h) (trailer-judged s body h g.end) λ x q. tt))

  stops-padding : {at : Cursor} (form : Form) → Refusing s e (λ n z. Unit {0}) at (padding form)
  stops-padding {at} form = record { go = λ l y. padded form s e at l y }

  stops-after : {at : Cursor} (form : Form) (body : Bool) (stated : Option ℕ) (start : Start) (h : Section) (f : Framing)
      → Refusing s e (λ n m. Unit {0}) at (after_headers form body stated start h f)
  unfolding after_headers after_content
  stops-after form body stated start h f =
      stops_then _ (stops-content form.known) λ i cs z.
      stops-bind _ (stops-here λ j.
      stops-bind _ (stops-tell (content_rule body f _ cs) (content-judged s _ j body f cs) λ c q.
      stops_then _ (stops-trailers form body) λ k ts y.
      stops-bind _ (stops-longs λ o v.
      stops_then _ (stops-padding form) λ n x w.
      stops-give tt)))

  -- ---- whole messages

  stops-request : {at : Cursor} (form : Form) → Refusing s e (λ n m. Unit {0}) at (request_message form)
  unfolding request_message after_control after_head
  stops-request form =
      stops_then _ stops-control λ i q z.
      stops_then _ (stops-header form) λ j h g.
      stops-bind _ (stops-tell (authority_in h.end q.authority h.lines) (authority-judged edition_numbers s wide h.end g.end refl q.authority h.lines) λ a r.
      stops-bind _ (stops-tell (may_state h.end (binary_framing_of h.lines)) (may-judged edition_numbers s wide h.end g.end (binary_framing_of h.lines)) λ f q.
      stops-after form true None _ h f))

module _ (t : Told) {s : List ℕ} {e : ℕ} where
  stops-final : {at : Cursor} (form : Form) (hs : List InformationalRead) (n : ℕ) → Refusing s e (λ i m. Unit {0}) at (after_final_status t form hs n)
  unfolding after_final_status after_final
  stops-final form hs n =
      stops_then _ (stops-header form) λ j h g.
      let f = binary_framing_of h.lines in
      stops-both (ends_at_head t n)
      (stops-bind _ (stops-tell (bodyless_rule t n h.end f) (bodyless-judged edition_numbers s wide h.end g.end t n f (binary-framing-in (length s) h.lines g.lines)) λ u q.
      stops-after form false (stated_in t n f) _ h Unstated))
      (stops-bind _ (stops-tell (may_state h.end f) (may-judged edition_numbers s wide h.end g.end f) λ v q.
      stops-after form true None _ h v))

  stops-response : (f : ℕ) {at : Cursor} (form : Form) (hs : List InformationalRead) → Refusing s e (λ i m. Unit {0}) at (heads t form f hs)
  unfolding heads after_informational_status after_informational
  stops-response zero form hs = stops-refuse (too-large (omega arith))
  stops-response (suc f) form hs =
      stops-bind _ (stops-here λ p.
      stops-bind _ (stops-integer _ _ (cut-off p) λ j v.
      stops-bind _ (stops-rule (status_verdict v) _ v (λ r a. at_place (status-wide.has (refusal_number r) (not_good status_numbers (status-verdict v) a)) p) λ a.
      stops-both (is_informational v)
      (stops-both (leb informational_most (length hs)) (stops-refuse (too-large p))
      (stops_then _ (stops-section form) λ k h g.
      stops-bind _ (stops-tell (nothing_stated h.end (binary_framing_of h.lines)) (nothing-judged edition_numbers s wide h.end g.end (binary_framing_of h.lines)) λ u q.
      stops-response f form _)))
      (stops-final form hs v))))

  stops-message : {at : Cursor} → Refusing s e (λ n m. Unit {0}) at (message t)
  unfolding message after_indicator
  stops-message =
      stops-bind _ (stops-integer _ _ (cut-off (omega arith)) λ i f.
      stops-both (eqb f 0) (stops-request _)
      (stops-both (eqb f 1) (stops-response (suc informational_most) _ [])
      (stops-both (eqb f 2) (stops-request _)
      (stops-both (eqb f 3) (stops-response (suc informational_most) _ []) (stops-refuse (at_place refl (omega arith)))))))

sized-refused : (t : Told) (s : List ℕ) (n p : ℕ) → read_sized t s ≡ refused n p → Refusal edition_numbers s n p
unfolding read_sized
sized-refused t s n p q = on (leb (length s) binary_most) q
  where
    pick : (x : Got Message) → Ends (Refusal edition_numbers s) (λ k l y. Stands s (length s) k l × Unit {0}) x → message_answer x ≡ refused n p → Refusal edition_numbers s n p
    pick (got y k l) g z = let w : ◌≡◌ {A = ℕ} 0 1 = cc in absurd (omega arith)
    pick (no k j) g z =
        let a : k ≡ n = cc in
        let b : j ≡ p = cc in
        rw (a, b) at g

    on : (b : Bool) → cond b (message_answer (message t (cursor 0 0) s)) (refused too_large 0) ≡ refused n p → Refusal edition_numbers s n p
    on true z = pick (message t (cursor 0 0) s) ((stops-message t {s = s} {e = length s} {at = cursor 0 0}).go s (record { lies = lies-all s; ends = omega arith; few = omega arith })) z
    on false z =
        let a : too_large ≡ n = cc in
        let b : 0 ≡ p = cc in
        at_place (rw (← a) refl) (omega arith)

pub edition-refused : EditionRefused
unfolding read_binary
edition-refused t s n p h q = let z : cond true (read_sized t s) (refused bad_edition 0) ≡ refused n p = rw h at q in sized-refused t s n p z

pub other-edition : OtherEdition
unfolding read_binary
other-edition t s h = rw h

-- the numbers of either edition are among all
wider : {s : List ℕ} {n p : ℕ} → Refusal edition_numbers s n p → Refusal binary_numbers s n p
wider {n = n} h = record { of_form = either (λ (b : Bool). b ≡ true) (eqb bad_edition n) true (is_one_of edition_numbers n) (λ a. refl) (λ a. h.of_form); inside = h.inside }

pub binary-refused : BinaryRefused
unfolding read_binary
binary-refused t s n p q = on (is_edition t.edition) q
  where
    on : (b : Bool) → cond b (read_sized t s) (refused bad_edition 0) ≡ refused n p → Refusal binary_numbers s n p
    on true z = wider (sized-refused t s n p z)
    on false z =
        let a : bad_edition ≡ n = cc in
        let b : 0 ≡ p = cc in
        record { of_form = rw (← a) refl; inside = omega arith }

pub binary-settled : BinarySettled
unfolding read_binary read_sized
binary-settled t s =
    either Settled (is_edition t.edition) (read_sized t s) (refused bad_edition 0)
    (λ a. either Settled (leb (length s) binary_most) (message_answer (message t (cursor 0 0) s)) (refused too_large 0) (λ b. on (message t (cursor 0 0) s)) (λ b. tt)) (λ a. tt)
  where
    on : (x : Got Message) → Settled (message_answer x)
    on (got m n r) = tt
    on (no k p) = tt
