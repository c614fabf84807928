-- One walk and then another, from the open run on: what is answered, written and left to count on. Assumes nothing.
use Rattle.std.specs.Prelude.{Some, None}
use Rattle.std.proofs.lemmas.Option.{cond_some, none-some}
use mathlib.Core.Path.{◌≡◌, refl, sym, ap, ◌∙◌, subst⁻¹}
use mathlib.Core.Bool.{Bool, true, false, cond, ◌&&◌, and-true, and-false, true≢false, false≢true}
use mathlib.Core.List.{List, [], append-nil}
use Prim.Native.Nat.{ℕ, zero, suc, ◌+◌, ◌*◌, ◌≤◌, ◌<◌}
use native.Mathlib.Decide.{dec_lt}
use native.Mathlib.Numerals.{add-one}
use native.Mathlib.Omega.{arith}
use lib.ListN.{length, length-append}
use Rattle.rule.proofs.Tests.{both}
use Rattle.image.specs.Listing as image
use Rattle.image.specs.Listing.{nothing, then, in_turn}
use Rattle.runs.specs.declared.Run.{Run}
use Rattle.runs.specs.Open.{stepped_all, output_after_all}
use Rattle.runs.proofs.Laws.Entries.{stepped_all_append, output_after_all_append, written_grows, written_few, length_output}
use Rattle.listing.specs.Walks.{answer, output, Does, Room}

-- ---- the answer, by whether the walk is fit

-- beside the library's `cond_some`
pub cond_none : {A : Type 0} (b : Bool) (x : A) → None ≡ cond b (Some x) None → b ≡ false
cond_none true x e = absurd (none-some x e)
cond_none false x e = refl

module _ (run : Run) (w : image.Walked) where
  pub answer_of : w.fit ≡ true → Some (stepped_all run w.runs) ≡ answer run w
  unfolding answer
  answer_of h = rw h

  pub answer_unfit : w.fit ≡ false → None ≡ answer run w
  unfolding answer
  answer_unfit h = rw h

  pub of_answer : {r : Run} → Some r ≡ answer run w → (w.fit ≡ true) × (r ≡ stepped_all run w.runs)
  unfolding answer
  of_answer {r} e = let f = cond_some w.fit (stepped_all run w.runs) r (sym e) in (f.0, sym f.1)

  pub of_unfit : None ≡ answer run w → w.fit ≡ false
  unfolding answer
  of_unfit e = cond_none w.fit _ e

-- ---- the output, by whether the walk writes

pub output_none : (writing : Bool) (run : Run) (w : image.Walked) (out : List ℕ) → w.runs ≡ [] → output writing run w out ≡ out
unfolding output output_after_all
output_none true run w out e = rw e
output_none false run w out e = refl

pub output_then : (writing : Bool) (run : Run) (v w : image.Walked) (out : List ℕ)
    → output writing run (then v w) out ≡ output writing (stepped_all run v.runs) w (output writing run v out)
unfolding output then
output_then true run v w out = output_after_all_append run v.runs w.runs out
output_then false run v w out = refl

pub length_left : {known : Bool} (writing : Bool) (run : Run) (w : image.Walked) (out : List ℕ) → Room known writing run w out
    → length (output writing run w out) ≡ length out
unfolding output
length_left true run w out h = length_output run w.runs out (h.room refl)
length_left false run w out h = refl

-- ---- what there is room for

-- a walk that only counts has no output to find room in
pub room_unwritten : {known : Bool} {run : Run} {w : image.Walked} {out : List ℕ} → run.written + length w.runs ≤ 4294967295
    → (known ≡ true → w.fit ≡ true)
    → Room known false run w out
room_unwritten few fit = record { few = few; fit = fit; checked = λ e. absurd (false≢true e); room = λ e. absurd (false≢true e) }

module _ {known : Bool} (writing : Bool) (run : Run) (v w : image.Walked) (out : List ℕ) (h : Room known writing run (then v w) out) where
  fit_both : known ≡ true → (v.fit ≡ true) × (w.fit ≡ true)
  unfolding then
  fit_both e = (both v.fit w.fit (λ f. f, λ f. f) (λ f. f, λ f. f)).0 (h.fit e)

  counted : run.written + (length v.runs + length w.runs) ≤ 4294967295
  unfolding then
  counted = omega (arith, h.few, length-append v.runs w.runs)

  written : writing ≡ true → 16 * (stepped_all (stepped_all run v.runs) w.runs).written ≤ length out
  unfolding then
  written e = omega (arith, h.room e, ap (λ (r : Run). r.written) (stepped_all_append run v.runs w.runs))

  pub room_first : Room known writing run v out
  room_first =
      record {
        few = omega (arith, counted);
        fit = λ e. (fit_both e).0;
        checked = h.checked;
        room = λ e. omega (arith, written e, written_grows (stepped_all run v.runs) w.runs);
      }

  pub room_then : Room known writing (stepped_all run v.runs) w (output writing run v out)
  room_then =
      record {
        few = omega (arith, counted, written_few run v.runs);
        fit = λ e. (fit_both e).1;
        checked = h.checked;
        room = λ e. omega (arith, written e, length_left writing run v out room_first);
      }

-- ---- the entries of a page in turn

then_nothing : (w : image.Walked) → then w nothing ≡ w
unfolding then nothing
then_nothing w = λ j. record { fit = and-true w.fit j; runs = append-nil w.runs j }

module _ (f : ℕ → image.Walked) where
  -- entries that give nothing leave the walk as it is
  pub skip_turn : (n i : ℕ) → i ≤ n → ((k : ℕ) → i ≤ k → k < n → f k ≡ nothing) → in_turn n f ≡ in_turn i f
  unfolding in_turn
  skip_turn zero i l h =
      let d : 0 ≡ i = omega arith in
      ap (λ k. in_turn k f) d
  skip_turn (suc n) i l h = go (dec_lt n i) (λ m. skip_turn n i m (λ k a b. h k a (omega arith)))
    where
      go : Dec (n < i) → (i ≤ n → in_turn n f ≡ in_turn i f) → then (in_turn n f) (f n) ≡ in_turn i f
      go (yes m) rest =
          let d : suc n ≡ i = omega arith in
          ap (λ k. in_turn k f) d
      go (no m) rest = ap (then (in_turn n f)) (h n (omega arith) (omega arith)) ∙ then_nothing (in_turn n f) ∙ rest (omega arith)

  -- an unfit entry makes the page's walk unfit
  pub unfit_turn : (n i : ℕ) → i < n → (f i).fit ≡ false → (in_turn n f).fit ≡ false
  unfolding in_turn then
  unfit_turn zero i l e = absurd (omega arith)
  unfit_turn (suc n) i l e = go (dec_lt i n) (λ m. unfit_turn n i m e)
    where
      go : Dec (i < n) → (i < n → (in_turn n f).fit ≡ false) → (in_turn n f).fit && (f n).fit ≡ false
      go (yes m) before = ap (λ b. b && (f n).fit) (before m)
      go (no m) before =
          let d : i ≡ n = omega arith in
          ap (λ b. (in_turn n f).fit && b) (subst⁻¹ (λ (k : ℕ). (f k).fit ≡ false) (sym d) e) ∙ and-false (in_turn n f).fit

  module _ (writing : Bool) (run : Run) (out : List ℕ) where
    -- where there is room for all, there is for each entry behind those before it
    pub room_turn : {known : Bool} (n : ℕ) → Room known writing run (in_turn n f) out → (i : ℕ) → i < n
        → Room known writing (stepped_all run (in_turn i f).runs) (f i) (output writing run (in_turn i f) out)
    unfolding in_turn
    room_turn zero h i l = absurd (omega arith)
    room_turn {known} (suc n) h i l = go (dec_lt i n) (λ m. room_turn n (room_first writing run (in_turn n f) (f n) out h) i m)
      where
        Goal : ℕ → Type 0
        Goal k = Room known writing (stepped_all run (in_turn k f).runs) (f k) (output writing run (in_turn k f) out)

        go : Dec (i < n) → (i < n → Goal i) → Goal i
        go (yes m) rest = rest m
        go (no m) rest =
            let d : i ≡ n = omega arith in
            subst⁻¹ Goal d (room_then writing run (in_turn n f) (f n) out h)

    -- A loop over the entries, after i of n: all are fit so far, and r and left are the open run and the output.
    pub record Walking (n i : ℕ) (r : Run) (left : List ℕ) : Type 0 where
      pub within : i ≤ n
      pub fit : (in_turn i f).fit ≡ true
      pub runs : r ≡ stepped_all run (in_turn i f).runs
      pub writes : left ≡ output writing run (in_turn i f) out
      pub same : length left ≡ length out

    pub walking_none : (n : ℕ) → Walking n 0 run out
    unfolding in_turn nothing stepped_all
    walking_none n =
        record { within = omega arith; fit = refl; runs = refl; writes = sym (output_none writing run nothing out refl); same = refl }

    module _ {n i : ℕ} {r : Run} {left : List ℕ} (h : Walking n i r left) where
      -- entries that give nothing are passed over
      pub walking_skip : (j : ℕ) → i ≤ j → j ≤ n → ((k : ℕ) → i ≤ k → k < j → f k ≡ nothing) → Walking n j r left
      walking_skip j l m none =
          let e = skip_turn j i l none in
          record {
            within = m;
            fit = ap (λ (w : image.Walked). w.fit) e ∙ h.fit;
            runs = h.runs ∙ ap (λ (w : image.Walked). stepped_all run w.runs) (sym e);
            writes = h.writes ∙ ap (λ w. output writing run w out) (sym e);
            same = h.same;
          }

      pub walking_room : {known : Bool} → Room known writing run (in_turn n f) out → i < n → Room known writing r (f i) left
      walking_room m l = rw (h.runs, h.writes) (room_turn n m i l)

      pub walking_more : i < n → {next : Run} {left' : List ℕ} → Does writing r (f i) left (Some next) left' → length left' ≡ length left
          → Walking n (i + 1) next left'
      unfolding in_turn then
      walking_more l {next} {left'} d k =
          let a = of_answer r (f i) d.answers in
          record {
            within = omega arith;
            fit = rw (add-one, h.fit) a.0;
            runs = a.1 ∙ rw (h.runs, add-one) (sym (stepped_all_append run (in_turn i f).runs (f i).runs));
            writes = d.writes ∙ rw (h.runs, h.writes, add-one) (sym (output_then writing run (in_turn i f) (f i) out));
            same = k ∙ h.same;
          }

      -- the walk stops at an unfit page: a walk that writes meets none
      pub walking_unfit : {known : Bool} → Room known writing run (in_turn n f) out → i < n → {left' : List ℕ}
          → Does writing r (f i) left None left'
          → Does writing run (in_turn n f) out None left'
      unfolding output
      walking_unfit m l {left'} d =
          let u = unfit_turn n i l (of_unfit r (f i) d.answers) in
          record { answers = answer_unfit run (in_turn n f) u; writes = kept u writing refl }
        where
          kept : (in_turn n f).fit ≡ false → (b : Bool) → writing ≡ b → left' ≡ output writing run (in_turn n f) out
          kept u true e = absurd (true≢false (sym (m.fit (m.checked e)) ∙ u))
          kept u false e = d.writes ∙ rw e (h.writes ∙ rw e)

      pub walking_all : n ≤ i → Does writing run (in_turn n f) out (Some r) left
      walking_all l =
          let e : i ≡ n = omega (arith, h.within) in
          record {
            answers = ap Some (h.runs ∙ ap (λ k. stepped_all run (in_turn k f).runs) e) ∙ answer_of run (in_turn n f) (rw e at h.fit);
            writes = h.writes ∙ ap (λ k. output writing run (in_turn k f) out) e;
          }
