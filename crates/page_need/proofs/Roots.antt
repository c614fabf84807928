-- The two cuts from the root, on trees with their supply: they take as many pages as are counted along their paths before. Assumes nothing.
use Prim.Native.Nat.{ℕ, suc, ◌+◌, ◌≤◌, ◌<◌}
use mathlib.Core.Path.{◌≡◌, refl, sym, ap, ◌∙◌}
use mathlib.Core.List.{[], ◌∷◌}
use native.Mathlib.Omega.{arith}
use lib.ListN.{length}
use borrow.Author.Tests.{lt-leb}
use Rattle.rule.specs.Time.{END}
use Rattle.rule.proofs.Laws.{lawful}
use Rattle.tree.specs.Tree.{Subtree, Nodes, Tree}
use Rattle.tree.specs.Supply.{Supply, without_next}
use Rattle.tree.specs.Cut.{Cutting, cut_node, State, root_node, grow_if_split, cut}
use Rattle.tree.specs.Change.{cuts}
use Rattle.tree.specs.Shape.{Asked, Formed}
use Rattle.tree.proofs.Shapes.{Cuttable}
use Rattle.tree.proofs.Cut.{cut_formed, cut_past}
use Rattle.refinement.proofs.Paths.{there}
use Rattle.tree.specs.Counts.{later}
use Rattle.tree.proofs.Conservation.Supply.{later_more, later_add}
use Rattle.page_need.specs.declared.Need.{Need}
use Rattle.page_need.specs.Needs.{need, add_needs, page_need, with_new_root}
use Rattle.page_need.proofs.Rows.{there_one}
use Rattle.page_need.proofs.Counts.{one_cut_in, both_cuts_in, page_need_few, one_adds, both_adds, CutAsCounted, one_page, one_cut}
use Rattle.page_need.proofs.Twice.{page_both, both_cut}

-- what a cut at t asks for, from the root
abbrev pub one_from : ℕ → ℕ → Tree → Need
one_from half t T = one_cut_in half t (suc T.level) (root_node T)

abbrev pub both_from : ℕ → ℕ → ℕ → Tree → Need
both_from half s e T = both_cuts_in half s e (suc T.level) (root_node T)

-- ---- one cut

grown_takes : (l : ℕ) {lo hi : ℕ} (S : Supply) (n : Need) (r : Cutting (Subtree (suc l))) → n.adds ≤ 1 → CutAsCounted (suc l) lo hi S n r
    → (grow_if_split l r.became r.supply).supply ≡ later (with_new_root n) S
unfolding grow_if_split with_new_root
grown_takes l {lo} {hi} S n r few c = go r.became c.len
  where
    go : (zs : Nodes (suc l)) → length zs ≡ suc n.adds → (grow_if_split l zs r.supply).supply ≡ later (n.adds + n.pages) S
    go [] e = absurd (omega arith)
    go (x ∷ []) e =
        let d : n.adds + n.pages ≡ n.pages = omega arith in
        c.supply ∙ ap (λ k. later k S) (sym d)
    go (x ∷ y ∷ zs) e =
        let d : n.adds + n.pages ≡ suc n.pages = omega arith in
        ap without_next c.supply ∙ (sym (later_more n.pages S) ∙ ap (λ k. later k S) (sym d))

module _ {half : ℕ} (two : 2 ≤ half) {B : Asked (Subtree 0)} (t : ℕ) (low : t < END) (Y : State) (F : Formed half B Y.tree) where
  abbrev top : Cutting (Subtree (suc Y.tree.level))
  top = cut_node half t (suc Y.tree.level) (root_node Y.tree) Y.supply

  pub root_counted : CutAsCounted (suc Y.tree.level) 0 END Y.supply (one_from half t Y.tree) top
  unfolding root_node
  root_counted =
      let pos : 0 < half = omega arith in
      one_page half pos t B Y.tree.level Y.supply (omega arith) low
      (λ a b y e lt l h q. one_cut half pos t B Y.tree.level y Y.supply e lt l h q)
      (root_node Y.tree) refl F.most F.spans

  pub cut_grows : cut half t Y ≡ grow_if_split Y.tree.level top.became top.supply
  unfolding cut
  cut_grows = rw (lt-leb END t low)

  pub cut_takes : (cut half t Y).supply ≡ later (with_new_root (one_from half t Y.tree)) Y.supply
  cut_takes =
      ap (λ (Z : State). Z.supply) cut_grows
      ∙ grown_takes Y.tree.level Y.supply (one_from half t Y.tree) top
      (one_adds half t (suc Y.tree.level) (root_node Y.tree)) root_counted

-- ---- and then another

-- the same root again, or a new one of two entries
sum_same : (a m b : Need) → add_needs a m ≡ b → with_new_root a + with_new_root m ≡ with_new_root b
unfolding with_new_root add_needs
sum_same a m b e =
    let p : a.adds + m.adds ≡ b.adds = ap (λ (n : Need). n.adds) e in
    let q : a.pages + m.pages ≡ b.pages = ap (λ (n : Need). n.pages) e in
    omega arith

sum_new : (half : ℕ) (a m b : Need) → 2 ≤ half → a.adds ≡ 1 → b.adds ≤ 1 → add_needs a m ≡ b
    → with_new_root a + with_new_root (page_need half 2 m) ≡ with_new_root b
unfolding with_new_root add_needs
sum_new half a m b two one few e =
    let p : a.adds + m.adds ≡ b.adds = ap (λ (n : Need). n.adds) e in
    let q : a.pages + m.pages ≡ b.pages = ap (λ (n : Need). n.pages) e in
    let r : page_need half 2 m ≡ need 0 m.pages = page_need_few half 2 m (omega arith) in
    ap (λ n. with_new_root a + with_new_root n) r ∙ omega arith

-- what the second asks for from the root that the first left
grown_asks : (half e l : ℕ) (zs : Nodes (suc l)) (S : Supply) (a b : Need) → 2 ≤ half → length zs ≡ suc a.adds → a.adds ≤ 1
    → b.adds ≤ 1
    → add_needs a (one_cut_in half e (suc l) (there (suc l) e zs)) ≡ b
    → with_new_root a + with_new_root (one_from half e (grow_if_split l zs S).tree) ≡ with_new_root b
unfolding grow_if_split root_node one_cut_in
grown_asks half e l [] S a b two n few few' same = absurd (omega arith)
grown_asks half e l (x ∷ []) S a b two n few few' same =
    let d : one_cut_in half e (suc l) (there (suc l) e (x ∷ [])) ≡ one_cut_in half e (suc l) x =
    ap (one_cut_in half e (suc l)) (there_one (suc l) e x) in
    sum_same a (one_cut_in half e (suc l) x) b (ap (add_needs a) (sym d) ∙ same)
grown_asks half e l (x ∷ y ∷ []) S a b two n few few' same =
    sum_new half a (one_cut_in half e (suc l) (there (suc l) e (x ∷ y ∷ []))) b two (omega arith) few' same
grown_asks half e l (x ∷ y ∷ z ∷ zs) S a b two n few few' same = absurd (omega arith)

module _ {half : ℕ} (two : 2 ≤ half) {B : Asked (Subtree 0)} (s : ℕ) (cutting : Cuttable s B) (e : ℕ) (lt : s < e) (Y : State)
    (F : Formed half B Y.tree) where
  -- A and B
  pub cuts_take : e < END → (cuts half s e Y).supply ≡ later (with_new_root (both_from half s e Y.tree)) Y.supply
  unfolding cuts root_node
  cuts_take high =
      let l = Y.tree.level in
      let x = root_node Y.tree in
      let low : s < END = omega arith in
      let r = cut_node half s (suc l) x Y.supply in
      let j = with_new_root (one_from half s Y.tree) in
      let k = with_new_root (one_from half e (cut half s Y).tree) in
      let twice : add_needs (one_from half s Y.tree) (one_cut_in half e (suc l) (there (suc l) e r.became))
      ≡ both_from half s e Y.tree =
      page_both half two s e lt B l Y.supply (omega arith) high
      (λ a b y start low high q. both_cut half two s e lt B l y Y.supply start low high q)
      x refl F.most F.spans in
      let n : j + k ≡ with_new_root (both_from half s e Y.tree) =
      ap (λ (Z : State). j + with_new_root (one_from half e Z.tree)) (cut_grows two s low Y F)
      ∙ grown_asks half e l r.became r.supply (one_from half s Y.tree) (both_from half s e Y.tree) two
      (root_counted two s low Y F).len
      (one_adds half s (suc l) x) (both_adds half s e l x) twice in
      let m : k + j ≡ with_new_root (both_from half s e Y.tree) = omega arith in
      cut_takes two e high (cut half s Y) (cut_formed two cutting (lawful 1) Y F)
      ∙ (ap (later k) (cut_takes two s low Y F) ∙ (sym (later_add k j Y.supply) ∙ ap (λ i. later i Y.supply) m))

  -- B does nothing from END on
  pub cuts_take_first : s < END → END ≤ e → (cuts half s e Y).supply ≡ later (with_new_root (one_from half s Y.tree)) Y.supply
  unfolding cuts
  cuts_take_first low high = ap (λ (Z : State). Z.supply) (cut_past half e (cut half s Y) high) ∙ cut_takes two s low Y F
