-- Laws of where the program stands and of what it prints. Assumes nothing.
use Prim.Native.Nat.{ℕ, zero, suc, ◌≤◌, ◌<◌, ◌^◌}
use mathlib.Core.Path.{◌≡◌, refl, sym, ap, ◌∙◌, subst⁻¹}
use mathlib.Core.Bool.{Bool, true, false, false≢true}
use mathlib.Core.List.{List, []}
use native.Mathlib.Omega.{arith}
use lib.ListN.{length, take}
use Rattle.std.specs.Prelude.{Result, Ok, Err, IfOk, OnOk, is_ok}
use Rattle.fields.specs.Bytes.{part}
use Rattle.fields.proofs.Laws.Parts.{part_patch_same}
use Rattle.rule.specs.Time.{END}
use Rattle.calls.specs.Calls.{listing}
use Rattle.print.specs.Written.{Put}
use Rattle.program.specs.declared.Reading.{Reading}
use Rattle.program.specs.State.{ProgramState, at_first, unwritten, after_bytes, ended, listed_text}
use Rattle.program.specs.Simulation.{Simulates, SimulatesStep, Begins, Flushes}
use Rattle.luwbook.specs.declared.Failed.{Failed}
use Rattle.luwbook.specs.Reached.{Reached, first, next, Printed, by_runs, Stands, Standing, Ran, Takes, Well}

-- before the first byte
pub begun : {r : Reading} {img : List ℕ} → Begins r → img ≡ (at_first 12 64).image → Standing r img
begun {r} {img} b e =
    let shows : Simulates [] 0 (at_first 12 64) r img [] = subst⁻¹ (λ x. Simulates [] 0 (at_first 12 64) r x []) e (b []) in
    record { going = at_first 12 64; reached = first; stands = record { had = []; from = 0; out = []; shows = shows } }

-- ---- what is printed

put_first : {had bs out : List ℕ} {n : ℕ} → Put had 0 bs out n → take n out ≡ bs
unfolding part
put_first {had} {bs} {out} {n} p = ap (λ o. take n o) p.written ∙ part_patch_same had 0 bs n (omega (arith, p.offset)) (omega arith)

-- nothing takes no place
pub put_none : {had bs out : List ℕ} {n : ℕ} → Put had 0 bs out n → bs ≡ [] → length (take n out) ≡ 0
put_none p e = ap length (put_first p ∙ e)

-- the output's first bytes may be written
pub writable : {had bs out : List ℕ} {n : ℕ} → Put had 0 bs out n → Printed bs → Printed (take n out)
writable p q = subst⁻¹ Printed (put_first p) q

-- and so the runs, of the image behind the last line
pub runs_writable : {g : ProgramState} {img out after : List ℕ} {n : ℕ} (list : List ℕ) → Reached g
    → img ≡ (ended 12 64 (unwritten g)).image → length list ≡ 22656
    → Put out 0 (listed_text (listing 12 0 END img list)) after n → Printed (take n after)
runs_writable list reached e l p =
    writable p (subst⁻¹ (λ x. Printed (listed_text (listing 12 0 END x list))) e (by_runs reached list l))

-- ---- a step of the program, in an output that is empty again

module _ {step : ProgramState → ProgramState} {r f q : Reading} {img out after left : List ℕ} (t : Flushes r f)
    (ran : SimulatesStep step f img out q after left) where
  pub shown : {g : ProgramState} → Stands g r img → Simulates out 0 (step (unwritten g)) q after left
  shown {g} s = ran out 0 (unwritten g) (t s.had s.from g img s.out out s.shows)

  pub stood : {g : ProgramState} → Stands g r img → Stands (step (unwritten g)) q after
  stood s = record { had = out; from = 0; out = left; shows = shown s }

-- ---- a piece

-- a piece was run, and its writing went well or not: well, where there was nothing to write
pub ran_written : {piece : List ℕ} {r q : Reading} {img after : List ℕ} {well : Bool}
    → ((g : ProgramState) → Stands g r img → Stands (after_bytes 12 64 piece (unwritten g)) q after)
    → ((g : ProgramState) → Stands g r img → (after_bytes 12 64 piece (unwritten g)).written ≡ [] → well ≡ true)
    → Ran piece r img well q after
ran_written f n = record { runs = λ e. f; silent = λ l. n }

-- the program has stopped, at a line whose number does not fit
pub ran_failed : {piece : List ℕ} {r q : Reading} {img after : List ℕ} → (r.number < 2 ^ 63 → ⊥) → Ran piece r img false q after
ran_failed far = record { runs = λ m. absurd (false≢true m); silent = λ l. absurd (far l) }

-- ---- what a read's answer means

pub on_ok : {A E : Type 0} (P : Type 0) (r : Result A E) → (is_ok r ≡ true → P) → OnOk r P
on_ok P (Ok x) f = f refl
on_ok P (Err e) f = tt

module _ {E : Type 0} {got : Result ℕ E} (bytes : List ℕ) (r : Reading) (img : List ℕ) (went : Result ℕ Failed) where
  pub takes_failed : {e : E} → got ≡ Err e → is_ok went ≡ false → Takes got bytes r img went r img
  unfolding Takes
  takes_failed f g = subst⁻¹ (λ x. Takes x bytes r img went r img) f (g, refl, refl)

  pub takes_ended : {n : ℕ} → got ≡ Ok n → n ≤ 0 → went ≡ Ok n → Takes got bytes r img went r img
  unfolding Takes
  takes_ended {n} f l g =
      let z : n ≡ 0 = omega arith in
      subst⁻¹ (λ x. Takes x bytes r img went r img) (f ∙ ap Ok z) (g ∙ ap Ok z, refl, refl)

  pub takes_more : {q : Reading} {after : List ℕ} {well : Bool} (n : ℕ) → got ≡ Ok n → 0 < n → IfOk went (λ m. m ≡ n)
      → is_ok went ≡ well → Ran (take n bytes) r img well q after → Takes got bytes r img went q after
  unfolding Takes
  takes_more zero f l g e h = absurd (omega arith)
  takes_more {q} {after} (suc k) f l g e h =
      subst⁻¹ (λ x. Takes x bytes r img went q after) f
      (g, subst⁻¹ (λ b. Ran (take (suc k) bytes) r img b q after) e h)

-- whatever it is, the program is where it can be, unless something failed
pub takes_well : {E : Type 0} (got : Result ℕ E) (bytes : List ℕ) {r : Reading} (q : Reading) {img : List ℕ} (after : List ℕ)
    (went : Result ℕ Failed) → Takes got bytes r img went q after → Standing r img → Well went q after
unfolding Takes
takes_well (Err e) bytes q after went t s = on_ok (Standing q after) went (λ m. absurd (false≢true (sym t.0 ∙ m)))
takes_well (Ok zero) bytes {r} q {img} after went t s =
    on_ok (Standing q after) went (λ m. subst⁻¹ (λ x. Standing x after) t.1 (subst⁻¹ (Standing r) t.2 s))
takes_well (Ok (suc k)) bytes q after went t s =
    on_ok (Standing q after) went (λ m. record {
      going = after_bytes 12 64 (take (suc k) bytes) (unwritten s.going);
      reached = next s.reached (take (suc k) bytes);
      stands = t.1.runs m s.going s.stands;
    })
