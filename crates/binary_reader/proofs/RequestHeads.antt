-- The rules of a request's head, by what is noted of its lines.
use Prim.Native.Nat.{ℕ, ◌+◌, ◌≤◌}
use mathlib.Core.Path.{◌≡◌, refl, sym, ap, ◌∙◌, subst}
use mathlib.Core.Bool.{Bool, true, false, cond}
use mathlib.Core.List.{List}
use native.Mathlib.Omega.{arith}
use lib.Dec.{eqb}
use lib.ListN.{length}
use Rattle.std.proofs.Common.{Option, Some, None, Ok, Err}
use Rattle.octets.specs.Refusals.{bad_host, bad_length, refused_at}
use Rattle.octets.specs.declared.Refused.{Refused}
use Rattle.script.specs.Do.{wrong}
use Rattle.script.specs.Script.{Lies}
use Rattle.script.proofs.Places.{lies-all, lies-from}
use Rattle.messages.specs.Message.{FieldRead}
use Rattle.messages.specs.Control.{is_host}
use Rattle.messages.specs.Names.{lines_of}
use Rattle.messages.specs.Notes.{notes_of, hosts_from, octets_at, is_inside, host_at, host_in, is_same_host, given_in, authority_noted, is_clashing, AllLie}
use Rattle.messages.specs.Rules.{authority_in, may_state, binary_framing_of}
use Rattle.messages.specs.declared.Hosts.{Hosts}
use Rattle.messages.specs.declared.Hosts.TheVariants.{Nothing, One, Several}
use Rattle.messages.specs.declared.Kind.TheVariants as kind
use Rattle.messages.specs.declared.Notes.{Notes}
use Rattle.messages.proofs.Noting.{notes-hosts, notes-binary}
use Rattle.messages.proofs.Hosting.{inside-sum, authority-found, authority-wrong}
use Rattle.messages.proofs.Lengths.{may-state, may-not-state}
use Rattle.binary_parts.specs.Control.{piece_of, Inside}
use Rattle.messages.specs.declared.Span.{Span}
use Rattle.binary_parts.proofs.Places.{part_length}
use Rattle.binary_reader.specs.Requests.{both_rules, HeadJudged}

-- ---- where the authority lies

abbrev span : ℕ → ℕ → Span
span a n = record { start = a; len = n }

found_inside : (s : List ℕ) (b m : ℕ) (a : Span) (i : Bool) (j : Bool) → i ≡ is_inside s b m → cond i (cond j (Some (span b m)) None) None ≡ Some a → Inside s a
found_inside s b m a true j e q = on j q
  where
    on : (j : Bool) → cond j (Some (span b m)) None ≡ Some a → Inside s a
    on true q = let x : span b m ≡ a = cc in subst (Inside s) x (inside-sum s b m e refl)
    on false q = let z : ◌≡◌ {A = ℕ} 0 1 = cc in absurd (omega arith)
found_inside s b m a false j e q = let z : ◌≡◌ {A = ℕ} 0 1 = cc in absurd (omega arith)

given_inside : (s : List ℕ) (b m : ℕ) (a : Span) (i : Bool) → b + m ≤ length s → cond i (Some (span b m)) None ≡ Some a → Inside s a
given_inside s b m a true h q = let x : span b m ≡ a = cc in subst (Inside s) x h
given_inside s b m a false h q = let z : ◌≡◌ {A = ℕ} 0 1 = cc in absurd (omega arith)

noted-inside : (s : List ℕ) (b m : ℕ) (a : Span) (h : Hosts) → b + m ≤ length s → authority_noted s b m h ≡ Some a → Inside s a
unfolding authority_noted host_at
noted-inside s b m a h l q = on (eqb m 0) h q
  where
    on : (i : Bool) (h : Hosts) → cond i (host_in s h) (given_in s b m h) ≡ Some a → Inside s a
    on true Nothing q = let z : ◌≡◌ {A = ℕ} 0 1 = cc in absurd (omega arith)
    on true (One c k) q = found_inside s c k a (is_inside s c k) (is_host (octets_at s c k)) refl q
    on true Several q = let z : ◌≡◌ {A = ℕ} 0 1 = cc in absurd (omega arith)
    on false Nothing q = given_inside s b m a true l q
    on false (One c k) q = given_inside s b m a (is_same_host s b m c k) l q
    on false Several q = let z : ◌≡◌ {A = ℕ} 0 1 = cc in absurd (omega arith)

-- ---- host and length

module _ (s : List ℕ) (q : Span) (end : ℕ) (notes : Notes) (inside : q.start + q.len ≤ length s) where
  long : length (piece_of s q).text ≡ q.len
  long = part_length s q.start q.len inside

  lies : Lies s q.start (piece_of s q).text
  lies = let z : 0 + q.start ≡ q.start = omega arith in rw z at (lies-from q.start q.len (omega (arith, inside)) (lies-all s))

  noted : (lines : List FieldRead) → notes ≡ notes_of false lines → {a : Option Span} → authority_noted s q.start q.len notes.hosts ≡ a
      → authority_noted s q.start (length (piece_of s q).text) (hosts_from (lines_of kind.Host lines)) ≡ a
  noted lines e {a} f =
      let h : notes.hosts ≡ hosts_from (lines_of kind.Host lines) = ap (λ (n : Notes). n.hosts) e ∙ notes-hosts false lines in
      rw (long, ← h) f

  framing : (lines : List FieldRead) → notes ≡ notes_of false lines → notes.framing ≡ binary_framing_of lines
  framing lines e = ap (λ (n : Notes). n.framing) e ∙ notes-binary lines

  judged-no : {n : ℕ} {x : Refused} → x ≡ refused_at n end
      → ((lines : List FieldRead) → notes ≡ notes_of false lines → AllLie s lines → both_rules (authority_in end (piece_of s q) lines) (may_state end (binary_framing_of lines)) ≡ wrong n end)
      → HeadJudged s q end notes (Err x)
  judged-no e h = subst (λ (x : Refused). HeadJudged s q end notes (Err x)) (sym e) (record { by = h; lies = tt })

  pub judged-host : {x : Refused} → x ≡ refused_at bad_host end → authority_noted s q.start q.len notes.hosts ≡ None → HeadJudged s q end notes (Err x)
  judged-host p f = judged-no p (λ lines e lie. rw (authority-wrong s lines lie (piece_of s q) lies end (noted lines e f)))

  module _ {a : Span} (f : authority_noted s q.start q.len notes.hosts ≡ Some a) where
    pub judged-length : {x : Refused} → x ≡ refused_at bad_length end → is_clashing notes.framing ≡ true → HeadJudged s q end notes (Err x)
    judged-length p c =
        judged-no p (λ lines e lie. rw ((authority-found s lines lie (piece_of s q) lies end a.start a.len (noted lines e f)).1, ← framing lines e) (may-not-state end notes.framing c))

    pub judged-good : is_clashing notes.framing ≡ false → HeadJudged s q end notes (Ok a)
    judged-good c =
        record {
          by = λ lines e lie.
              let w = authority-found s lines lie (piece_of s q) lies end a.start a.len (noted lines e f) in
              (w.0, w.1, w.2, rw (← framing lines e) (may-state end notes.framing c));
          lies = noted-inside s q.start q.len a notes.hosts inside f;
        }
