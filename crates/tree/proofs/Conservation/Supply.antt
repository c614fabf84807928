-- Pages taken one after the other: what is left of the chain, and where the high mark is. Assumes nothing.
use Prim.Native.Nat.{ℕ, zero, suc, ◌+◌, ◌-◌}
use mathlib.Core.Path.{◌≡◌, refl, ap, ◌∙◌}
use mathlib.Core.List.{List, [], ◌∷◌}
use native.Mathlib.Omega.{arith}
use native.Mathlib.Nat.{zero-add, suc-add}
use lib.ListN.{length, drop, length-drop}
use lib.Seq.{drop-drop}
use Rattle.tree.specs.Supply.{Supply, without_next}
use Rattle.tree.specs.Counts.{later}

pub record OneLess (S T : Supply) : Type 0 where
  pub chain : T.chain ≡ drop 1 S.chain
  pub mark : T.mark ≡ S.mark + (1 - length S.chain)

pub one_less : (S : Supply) → OneLess S (without_next S)
unfolding without_next
one_less S = go S.chain S.mark
  where
    go : (ps : List ℕ) (m : ℕ) → OneLess (record { chain = ps; mark = m }) (without_next (record { chain = ps; mark = m }))
    go [] m = record { chain = refl; mark = omega arith }
    go (p ∷ ps) m = record { chain = refl; mark = omega arith }

pub later_more : (k : ℕ) (S : Supply) → later (suc k) S ≡ without_next (later k S)
unfolding later
later_more zero S = refl
later_more (suc k) S = later_more k (without_next S)

-- j pages more
pub later_add : (j k : ℕ) (S : Supply) → later (j + k) S ≡ later j (later k S)
later_add zero k S = rw (zero-add k) (unfold later in refl)
later_add (suc j) k S = rw (suc-add j k, later_more (j + k) S, later_more j (later k S), later_add j k S)

pub later_chain : (k : ℕ) (S : Supply) → (later k S).chain ≡ drop k S.chain
unfolding later
later_chain zero S = refl
later_chain (suc k) S =
    let n : 1 + k ≡ suc k = omega arith in
    later_chain k (without_next S) ∙ ap (drop k) (one_less S).chain ∙ drop-drop k 1 S.chain ∙ ap (λ i. drop i S.chain) n

pub later_mark : (k : ℕ) (S : Supply) → (later k S).mark ≡ S.mark + (k - length S.chain)
unfolding later
later_mark zero S = omega arith
later_mark (suc k) S =
    omega (arith, later_mark k (without_next S), (one_less S).mark, ap length (one_less S).chain ∙ length-drop 1 S.chain)

pub later_length : (k : ℕ) (S : Supply) → length (later k S).chain ≡ length S.chain - k
later_length k S = ap length (later_chain k S) ∙ length-drop k S.chain
