-- The loop over many octets; and that it takes the steps one by one.
use Prim.Native.Nat.{ℕ, zero, suc, ◌+◌, ◌-◌, ◌<◌, ◌≤◌}
use mathlib.Core.Path.{◌≡◌, refl, sym, ap, ◌∙◌}
use mathlib.Core.Bool.{Bool, true, false, cond}
use mathlib.Core.Logic.{◌⊎◌, inl, inr}
use mathlib.Core.List.{List, [], ◌∷◌}
use native.Mathlib.Omega.{arith}
use native.Mathlib.Numerals.{add-one}
use lib.ListN.{length, get_or, take, drop, drop_of_length-le, length-drop}
use lib.Seq.{drop-cons, drop-drop}
use Rattle.octets.specs.Limits.{head_most}
use Rattle.octets.proofs.Kit.{either, no_true}
use Rattle.steps.specs.States.{Held, held, Gives}
use Rattle.steps.specs.Steps.{taken, answer_in, small_room}
use Rattle.steps.specs.Runs.{is_settled, ran_held, ran_count, passed, MayPass, Runs}
use Rattle.steps.specs.declared.Answer.{Answer}
use Rattle.steps.specs.declared.Answer.TheVariants as says
use Rattle.steps.specs.declared.Phase.{Phase}
use Rattle.steps.specs.declared.Phase.TheVariants as phase
use Rattle.steps.specs.declared.State.{State}
use Rattle.steps.proofs.Passing.{pass_all}
use Rattle.steps.proofs.Claims.{after_octets, settled-all}

pub settled-as : {x : Phase} {r : Bool} (y : Phase) → x ≡ y → r ≡ is_settled y → r ≡ is_settled x
settled-as y e f = rw e f

-- ---- the loop: i octets are taken, and the state is x

pub record Running (st : State) (room₀ s : List ℕ) (x : State) (room : List ℕ) (i : ℕ) : Type 0 where
  pub few : i ≤ length s
  pub space : length room ≡ length room₀
  pub held-is : ran_held (held st room₀) s ≡ ran_held (held x room) (drop i s)
  pub count-is : ran_count (held st room₀) s ≡ i + ran_count (held x room) (drop i s)

pub run-start : (st : State) (room s : List ℕ) → Running st room s st room 0
run-start st room s = record { few = omega arith; space = refl; held-is = refl; count-is = omega arith }

module _ {st : State} {room₀ s : List ℕ} {x : State} {room : List ℕ} {i : ℕ} (q : Running st room₀ s x room i) where
  next-is : i < length s → drop i s ≡ get_or s i 0 ∷ drop (suc i) s
  next-is h = drop-cons s i 0 h

  run-next : {y : State} {o : List ℕ} {r : Bool} → i < length s → r ≡ is_settled x.phase → r ≡ false → length o ≡ length room → Gives (taken x room (get_or s i 0)) y o
      → Running st room₀ s y o (i + 1)
  unfolding ran_held ran_count
  run-next {y} {o} h e f l g =
      let z : is_settled x.phase ≡ false = sym e ∙ f in
      let k : held y o ≡ taken x room (get_or s i 0) = pair g.state g.room in
      let n : suc i ≡ i + 1 = omega arith in
      record {
        few = omega arith;
        space = l ∙ q.space;
        held-is = q.held-is ∙ rw (next-is h, z) (ap (λ (w : Held). ran_held w (drop (suc i) s)) (sym k) ∙ ap (λ (j : ℕ). ran_held (held y o) (drop j s)) n);
        count-is =
            q.count-is ∙ rw (next-is h, z) (ap (λ (w : Held). i + suc (ran_count w (drop (suc i) s))) (sym k) ∙ ap (λ (j : ℕ). i + suc (ran_count (held y o) (drop j s))) n ∙ omega arith);
      }
    where
      pair : {h : Held} {y : State} {o : List ℕ} → y ≡ h.state → o ≡ h.room → held y o ≡ h
      pair a b = rw (a, b)

  pub run-again : {y : State} {o : List ℕ} {r : Bool} {j : ℕ} → i < length s → r ≡ is_settled x.phase → r ≡ false → length o ≡ length room → Gives (taken x room (get_or s i 0)) y o
      → j ≡ i + 1 → Running st room₀ s y o j
  run-again {y} {o} h e f l g n = rw n (run-next h e f l g)

  -- octets that are passed over in one go
  pub run-pass : {y : State} {n j : ℕ} → i < length s → MayPass x (length s - i) n → (n ≡ 0 → ⊥) → y ≡ passed x n → j ≡ i + n → Running st room₀ s y room j
  run-pass {y} {n} {j} h p z e k =
      let f = p.few in
      let l = length-drop i s in
      let a = pass_all room n x (drop i s) (omega arith) (p.may z) in
      let d : drop n (drop i s) ≡ drop (i + n) s = drop-drop n i s in
      rw (e, k) (record {
        few = omega arith;
        space = q.space;
        held-is = q.held-is ∙ a.0 ∙ ap (ran_held (held (passed x n) room)) d;
        count-is = q.count-is ∙ ap (λ (w : ℕ). i + w) (a.1 ∙ ap (λ (w : List ℕ). n + ran_count (held (passed x n) room) w) d) ∙ omega arith;
      })

  -- settled, or all octets taken
  pub run_settled : {a : Answer} {r : Bool} → head_most ≤ length room₀ → i < length s → r ≡ is_settled x.phase → r ≡ true → a ≡ answer_in x
      → Runs st room₀ s (record { state = x; taken = i; answer = a }) room
  unfolding ran_held ran_count
  run_settled m h e f a =
      let z : is_settled x.phase ≡ true = sym e ∙ f in
      let k : ran_held (held st room₀) s ≡ held x room = q.held-is ∙ rw (next-is h, z) in
      let c : ran_count (held st room₀) s ≡ i = q.count-is ∙ rw (next-is h, z) (omega arith) in
      record {
        small = λ y. absurd (omega arith);
        ran = λ y. record { state = ap (λ (w : Held). w.state) (sym k); room = ap (λ (w : Held). w.room) (sym k) };
        count = λ y. sym c;
        answers = λ y. a ∙ ap (λ (w : Held). answer_in w.state) (sym k);
      }

  pub run_end : {a : Answer} → head_most ≤ length room₀ → length s ≤ i → a ≡ answer_in x → Runs st room₀ s (record { state = x; taken = i; answer = a }) room
  unfolding ran_held ran_count
  run_end m h a =
      let d : drop i s ≡ [] = drop_of_length-le s {i = i} h in
      let k : ran_held (held st room₀) s ≡ held x room = q.held-is ∙ rw d in
      let c : ran_count (held st room₀) s ≡ i = q.count-is ∙ rw d (omega arith) in
      record {
        small = λ y. absurd (omega arith);
        ran = λ y. record { state = ap (λ (w : Held). w.state) (sym k); room = ap (λ (w : Held). w.room) (sym k) };
        count = λ y. sym c;
        answers = λ y. a ∙ ap (λ (w : Held). answer_in w.state) (sym k);
      }

pub run_small : (st : State) (room s : List ℕ) → length room < head_most → Runs st room s (record { state = st; taken = 0; answer = says.Refusal small_room 0 }) room
run_small st room s h = record { small = λ y. (refl, refl, refl, refl); ran = λ y. absurd (omega arith); count = λ y. absurd (omega arith); answers = λ y. absurd (omega arith) }

-- ---- they are the steps one by one

settled-which : (x : Phase) → is_settled x ≡ true → (x ≡ phase.Ended) ⊎ (x ≡ phase.Refused)
settled-which phase.RequestLine e = absurd (no_true e)
settled-which phase.FieldLine e = absurd (no_true e)
settled-which phase.Content e = absurd (no_true e)
settled-which phase.ChunkLine e = absurd (no_true e)
settled-which phase.Chunk e = absurd (no_true e)
settled-which phase.TrailerLine e = absurd (no_true e)
settled-which phase.Ended e = inl refl
settled-which phase.Refused e = inr refl

pub run-steps : (h : Held) (s : List ℕ) → ran_held h s ≡ after_octets h s
unfolding ran_held after_octets
run-steps h [] = refl
run-steps h (b ∷ s) = either (λ (z : Held). z ≡ after_octets (taken h.state h.room b) s) (is_settled h.state.phase) h (ran_held (taken h.state h.room b) s)
    (λ e. sym (settled-all h (b ∷ s) (settled-which h.state.phase e)))
    (λ e. run-steps (taken h.state h.room b) s)

-- the octets that it took suffice
pub run-takes : (h : Held) (s : List ℕ) → (ran_count h s ≤ length s) × (ran_held h s ≡ after_octets h (take (ran_count h s) s))
unfolding ran_held ran_count after_octets
run-takes h [] = (omega arith, refl)
run-takes h (b ∷ s) = pick (is_settled h.state.phase) (run-takes (taken h.state h.room b) s)
  where
    pick : (z : Bool) → (ran_count (taken h.state h.room b) s ≤ length s)
        × (ran_held (taken h.state h.room b) s ≡ after_octets (taken h.state h.room b) (take (ran_count (taken h.state h.room b) s) s))
        → (cond z 0 (suc (ran_count (taken h.state h.room b) s)) ≤ suc (length s))
        × (cond z h (ran_held (taken h.state h.room b) s) ≡ after_octets h (take (cond z 0 (suc (ran_count (taken h.state h.room b) s))) (b ∷ s)))
    pick true ih = (omega arith, refl)
    pick false ih = (omega (arith, ih.0), ih.1)
