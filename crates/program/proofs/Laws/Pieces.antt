-- A text that comes piece by piece: what a line, a byte and a piece do to the program as it goes. Assumes nothing.
use mathlib.Core.Path.{◌≡◌, refl, sym, ap, ◌∙◌, subst}
use mathlib.Core.Bool.{cond}
use mathlib.Core.List.{List, [], ◌∷◌, ◌++◌}
use Prim.Native.Nat.{ℕ, ◌+◌, ◌≤◌, ◌<◌}
use native.Mathlib.Numerals.{add-one}
use native.Mathlib.Omega.{arith}
use lib.ListN.{length, get_or, take, replicate}
use lib.Seq.{take-suc, take-length}
use borrow.Author.Tests.{eq-eqb, ne_eqb}
use Rattle.page.specs.Layout.{capacity_ok}
use Rattle.calls.specs.Calls.{Formatted, format}
use Rattle.calls.specs.Index.{index_format}
use Rattle.calls.specs.Program.{Line, cut_at, line_from, ran_line}
use Rattle.text.specs.Reading.{Kept, Holds}
use Rattle.text.proofs.Laws.Feeds.{held_none, held_some}
use Rattle.print.specs.declared.Printer.{Printer}
use Rattle.print.specs.Written.{Put}
use Rattle.print.proofs.Laws.Puts.{put_none, put_then, put_left}
use Rattle.program.specs.declared.Reading.{Reading}
use Rattle.program.specs.State.{ProgramState, at_first, unwritten, line_run, after_byte, after_bytes, ended}
use Rattle.program.specs.Simulation.{Does, Simulates, SimulatesStep, Begins, Flushes, Advances}
use Rattle.program.proofs.Laws.Lines.{does_as}

-- the program where g is, by another name
shows_as : {had : List ℕ} {from : ℕ} {g g' : ProgramState} {r : Reading} {img out : List ℕ} → g ≡ g'
    → Simulates had from g r img out → Simulates had from g' r img out
shows_as {had} {from} {g} {g'} {r} {img} {out} e s = subst (λ x. Simulates had from x r img out) e s

-- what was printed, up to an offset by another name
put_at : {had bs out : List ℕ} {at p q : ℕ} → Put had at bs out p → p ≡ q → Put had at bs out q
put_at f e = record { room = f.room; written = f.written; offset = sym e ∙ f.offset }

-- ---- a line that ends

pub goes_line : {r : Reading} {img left after : List ℕ} {line : Line} {none : Kept} {p q : Printer} → p.at ≡ r.at
    → ((text : List ℕ) → Holds r.fed text → line ≡ line_from (cut_at 32 text)) → Holds none []
    → Does (ran_line 12 64 r.number line img) left p q → after ≡ q.out.now
    → SimulatesStep (line_run 12 64) r img p.out.now (record { fed = none; number = r.number + 1; at = q.at }) left after
unfolding line_run
goes_line {p = p} a parsed empty d f had from g s =
    let e = parsed g.line s.fed in
    let d' = does_as (λ j. ran_line 12 64 (s.number j) (e j) (s.image j)) d in
    let here : Put had from g.written p.out.now p.at = put_at s.printed (sym a) in
    record { fed = empty; number = omega (arith, s.number); image = d'.image; printed = put_left f (put_then here d'.printed.put) }

pub within_line : {r : Reading} {fed : Kept} {next : ℕ} → next ≤ r.at + 55
    → Advances 1 r (record { fed = fed; number = r.number + 1; at = next })
within_line h = record { number = omega arith; at = omega arith }

-- ---- a byte

module _ (half pages b : ℕ) (g : ProgramState) where
  pub goes_newline : b ≡ 10 → line_run half pages g ≡ after_byte half pages b g
  unfolding after_byte
  goes_newline e =
      ap (λ t. cond t (line_run half pages g)
      (record { written = g.written; line = g.line ++ (b ∷ []); number = g.number; image = g.image })) (sym (eq-eqb b 10 e))

  pub goes_other : (b ≡ 10 → ⊥)
      → record { written = g.written; line = g.line ++ (b ∷ []); number = g.number; image = g.image } ≡ after_byte half pages b g
  unfolding after_byte
  goes_other n =
      ap (λ t. cond t (line_run half pages g)
      (record { written = g.written; line = g.line ++ (b ∷ []); number = g.number; image = g.image })) (sym (ne_eqb b 10 n))

pub goes_end : {b : ℕ} {r q : Reading} {img out left after : List ℕ} → b ≡ 10 → SimulatesStep (line_run 12 64) r img out q left after
    → SimulatesStep (after_byte 12 64 b) r img out q left after
goes_end {b} e f had from g s = shows_as (goes_newline 12 64 b g e) (f had from g s)

pub goes_fed : {b : ℕ} {r : Reading} {img out : List ℕ} {more : Kept} → (b ≡ 10 → ⊥)
    → ((line : List ℕ) → Holds r.fed line → Holds more (line ++ (b ∷ [])))
    → SimulatesStep (after_byte 12 64 b) r img out (record { fed = more; number = r.number; at = r.at }) img out
goes_fed {b} n f had from g s =
    shows_as (goes_other 12 64 b g n)
    (record { fed = f g.line s.fed; number = s.number; image = s.image; printed = s.printed })

-- at most as far as before
pub within_same : {r q : Reading} → q.number ≡ r.number → q.at ≡ r.at → Advances 1 r q
within_same e f = record { number = omega arith; at = omega arith }

-- ---- a piece, byte by byte: the loop's invariant

pub goes_on_snoc : (half pages : ℕ) (xs : List ℕ) (b : ℕ) (g : ProgramState)
    → after_byte half pages b (after_bytes half pages xs g) ≡ after_bytes half pages (xs ++ (b ∷ [])) g
unfolding after_bytes
goes_on_snoc half pages [] b g = refl
goes_on_snoc half pages (x ∷ xs) b g = goes_on_snoc half pages xs b (after_byte half pages x g)

pub record Come (piece : List ℕ) (r : Reading) (img out : List ℕ) (i : ℕ) (q : Reading) (left after : List ℕ) : Type 0 where
  pub within : i ≤ length piece
  pub gone : SimulatesStep (after_bytes 12 64 (take i piece)) r img out q left after
  pub bounds : Advances i r q
  pub size : length after ≡ length out
  pub pages : length left ≡ length img

pub come_none : (piece : List ℕ) (r : Reading) (img out : List ℕ) → Come piece r img out 0 r img out
unfolding after_bytes
come_none piece r img out =
    record {
      within = omega arith;
      gone = λ had from g s. s;
      bounds = record { number = omega arith; at = omega arith };
      size = refl;
      pages = refl;
    }

pub come_more : {piece : List ℕ} {r : Reading} {img out : List ℕ} {i : ℕ} {q q' : Reading} {left left' after after' : List ℕ}
    → Come piece r img out i q left after → i < length piece
    → SimulatesStep (after_byte 12 64 (get_or piece i 0)) q left after q' left' after' → Advances 1 q q'
    → length after' ≡ length after → length left' ≡ length left → Come piece r img out (i + 1) q' left' after'
come_more {piece} {r} {img} {out} {i} so h f w l k =
    let e : take i piece ++ (get_or piece i 0 ∷ []) ≡ take (i + 1) piece = sym (ap (λ k. take k piece) (add-one i) ∙ take-suc piece i 0 h) in
    record {
      within = omega arith;
      gone = λ had from g s.
          shows_as (goes_on_snoc 12 64 (take i piece) (get_or piece i 0) g ∙ ap (λ t. after_bytes 12 64 t g) e)
          (f had from (after_bytes 12 64 (take i piece) g) (so.gone had from g s));
      bounds = record { number = omega (arith, so.bounds.number, w.number); at = omega (arith, so.bounds.at, w.at) };
      size = l ∙ so.size;
      pages = k ∙ so.pages;
    }

module _ {piece : List ℕ} {r : Reading} {img out : List ℕ} {i : ℕ} {q : Reading} {left after : List ℕ}
    (so : Come piece r img out i q left after) (h : length piece ≤ i) where
  whole : i ≡ length piece
  whole = omega (arith, so.within)

  pub come_all : SimulatesStep (after_bytes 12 64 piece) r img out q left after
  come_all had from g s =
      shows_as (ap (λ t. after_bytes 12 64 t g) (ap (λ k. take k piece) whole ∙ take-length piece)) (so.gone had from g s)

  pub come_within : Advances (length piece) r q
  come_within = record { number = omega (arith, whole, so.bounds.number); at = omega (arith, whole, so.bounds.at) }

-- ---- the end

module _ (half pages : ℕ) (g : ProgramState) where
  pub ended_empty : length g.line ≡ 0 → g ≡ ended half pages g
  unfolding ended
  ended_empty e = ap (λ t. cond t g (line_run half pages g)) (sym (eq-eqb (length g.line) 0 e))

  pub ended_line : (length g.line ≡ 0 → ⊥) → line_run half pages g ≡ ended half pages g
  unfolding ended
  ended_line n = ap (λ t. cond t g (line_run half pages g)) (sym (ne_eqb (length g.line) 0 n))

pub goes_empty : {r : Reading} {img out : List ℕ} → length r.fed.bytes ≡ 0 → SimulatesStep (ended 12 64) r img out r img out
goes_empty e had from g s = shows_as (ended_empty 12 64 g (held_none g.line s.fed.same e)) s

pub goes_last : {r q : Reading} {img out left after : List ℕ} → (length r.fed.bytes ≡ 0 → ⊥)
    → SimulatesStep (line_run 12 64) r img out q left after
    → SimulatesStep (ended 12 64) r img out q left after
goes_last {r} n f had from g s = shows_as (ended_line 12 64 g (λ e. n (held_some g.line s.fed.same e))) (f had from g s)

-- ---- the first byte, and an output that is empty again

pub begun : {img after : List ℕ} {n : ℕ} → img ≡ replicate 32768 0 → record { status = n; image = after } ≡ index_format 1 0 24 img
    → after ≡ (at_first 12 64).image
unfolding at_first index_format capacity_ok
begun e f = ap (λ (r : Formatted). r.image) f ∙ ap (λ s. (format 12 1 0 24 s).image) e

pub begins : {r : Reading} → Holds r.fed [] → r.number ≡ 1 → r.at ≡ 0 → Begins r
unfolding at_first
begins {r} h n a out = record { fed = h; number = n; image = refl; printed = put_at (put_none out 0 (omega arith)) (sym a) }

pub turns : {r : Reading} → Flushes r (record { fed = r.fed; number = r.number; at = 0 })
unfolding unwritten
turns had from g img out next s = record { fed = s.fed; number = s.number; image = s.image; printed = put_none next 0 (omega arith) }
