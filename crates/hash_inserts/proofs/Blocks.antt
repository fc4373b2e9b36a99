-- One block of a directory that is put, one that it had or a new one.
use Rattle.std.proofs.Common.{◌≡◌, ◌≢◌, ◌⊎◌, ℕ, ◌+◌, ◌<◌, inl, inr, false, List, Option, None, Some, refl, sym, ap, ap₂, ◌∙◌, arith}
use Rattle.std.specs.Prelude.{◌==◌, IsSome, is_some}
use Rattle.std.specs.FinMap.{FinMap, get, insert, nat_cmp-IsAntisymmetric}
use Rattle.std.specs.Ordering.{nat_cmp}
use Rattle.std.specs.Cmp.{nat_cmp_total}
use Rattle.std.proofs.lemmas.Bool.{cases_eq, cond-true, cond-false, eq-eqb, ne_eqb}
use Rattle.finite_maps.proofs.Keys.{inserted_at, inserted_apart}
use Rattle.drafts.specs.Fates.{Drafted, block_with, seen_in, seen_with}
use Rattle.drafts.specs.declared.fate.Fate.{Fate}
use Rattle.drafts.specs.declared.fate.Fate.TheVariants.{Put}
use Rattle.gfs2_layout.specs.Holding.{Holding, Cell, Part, cell_bytes, cell_part, part_at, bytes_at}
use Rattle.gfs2_layout.specs.Inode.{block_count}
use Rattle.glock_names.specs.Views.{Seen}
use Rattle.glock_names.specs.declared.LockName.{LockName}
use Rattle.dinode_tree.specs.Reading.{inode_lock}
use Rattle.growth_laws.proofs.Counting.{count_more, count_same}
use Rattle.hash_inserts.specs.Drafting.{Puts, with_block}

module _ (h : Holding) (y : ℕ) (part : Part) (bytes : List ℕ) where
  abbrev g : Holding
  g = with_block h y part bytes

  pub cell_here : g.cell y ≡ Some (record { part = part; bytes = bytes })
  cell_here = cond-true (y == y) _ _ (eq-eqb y y refl)

  pub cell_apart : (z : ℕ) → z ≢ y → g.cell z ≡ h.cell z
  cell_apart z other = cond-false (z == y) _ _ (ne_eqb z y other)

  pub bytes_here : bytes_at g y ≡ bytes
  bytes_here = ap cell_bytes cell_here

  pub bytes_apart : (z : ℕ) → z ≢ y → bytes_at g z ≡ bytes_at h z
  bytes_apart z other = ap cell_bytes (cell_apart z other)

  pub part_here : part_at g y ≡ Some part
  part_here = ap cell_part cell_here

  pub part_apart : (z : ℕ) → z ≢ y → part_at g z ≡ part_at h z
  part_apart z other = ap cell_part (cell_apart z other)

  pub some_here : IsSome (g.cell y)
  some_here = ap is_some cell_here

  pub some_still : (z : ℕ) → IsSome (h.cell z) → IsSome (g.cell z)
  some_still z some = elim (cases_eq z y) [
    | inl here ↦ ap (λ x. is_some (g.cell x)) here ∙ some_here
    | inr other ↦ ap is_some (cell_apart z other) ∙ some
  ]

  pub some_before : (z : ℕ) → IsSome (g.cell z) → (z ≡ y) ⊎ IsSome (h.cell z)
  some_before z some = elim (cases_eq z y) [
    | inl here ↦ inl here
    | inr other ↦ inr (sym (ap is_some (cell_apart z other)) ∙ some)
  ]

  -- ---- how many blocks it has

  pub counts_same : IsSome (h.cell y) → block_count g ≡ block_count h
  unfolding block_count
  counts_same there = count_same (λ z. is_some (h.cell z)) (λ z. is_some (g.cell z)) 0 h.count (λ z low high. elim (cases_eq z y) [
    | inl here ↦ ap (λ x. is_some (g.cell x)) here ∙ some_here ∙ sym there ∙ ap (λ x. is_some (h.cell x)) (sym here)
    | inr other ↦ ap is_some (cell_apart z other)
  ])

  pub counts_more : h.cell y ≡ None → y < h.count → block_count g ≡ block_count h + 1
  unfolding block_count
  counts_more new inside = count_more (λ z. is_some (h.cell z)) (λ z. is_some (g.cell z)) y 0 h.count (omega arith) (omega (arith, inside)) (ap is_some new) some_here (λ z other. ap is_some (cell_apart z other))

-- ---- what a draft makes of it

module _ (fates : FinMap nat_cmp Fate) (y : ℕ) (fate : Fate) where
  pub fate_here : get (insert fates y fate) y ≡ Some fate
  fate_here = inserted_at nat_cmp_total nat_cmp-IsAntisymmetric fates y fate

  pub fate_apart : (z : ℕ) → z ≢ y → get (insert fates y fate) z ≡ get fates z
  fate_apart z other = inserted_apart nat_cmp_total nat_cmp-IsAntisymmetric fates y fate z other

module _ (v : Seen) (fates : FinMap nat_cmp Fate) (h : Holding) (y : ℕ) (part : Part) (bytes : List ℕ) where
  abbrev fate : Fate
  fate = Put (inode_lock h.own) false bytes

  pub sees_here : (seen_with v (insert fates y fate)).block_at y ≡ Some bytes
  sees_here = ap (λ f. block_with f (v.block_at y)) (fate_here fates y fate)

  pub sees_apart : (z : ℕ) → z ≢ y → (seen_with v (insert fates y fate)).block_at z ≡ (seen_with v fates).block_at z
  sees_apart z other = ap (λ f. block_with f (v.block_at z)) (fate_apart fates y fate z other)

  pub one_put : Puts v fates (insert fates y fate) h (with_block h y part bytes)
  one_put = record {
    own = refl;
    drafted = record {
      own = λ b some. elim (cases_eq b y) [
        | inl here ↦ inr (ap (get (insert fates y fate)) here ∙ fate_here fates y fate ∙ ap (λ x. Some (Put (inode_lock h.own) false x)) (sym (bytes_here h y part bytes) ∙ ap (bytes_at (with_block h y part bytes)) (sym here)))
        | inr other ↦ inl (fate_apart fates y fate b other, bytes_apart h y part bytes b other)
      ];
      others = λ b none. fate_apart fates y fate b (λ here. none (ap (λ x. is_some ((with_block h y part bytes).cell x)) here ∙ some_here h y part bytes));
    };
    seen = λ was b xs some at. elim (cases_eq b y) [
      | inl here ↦ ap (bytes_at (with_block h y part bytes)) here ∙ bytes_here h y part bytes ∙ one_bytes bytes xs (sym sees_here ∙ ap (seen_with v (insert fates y fate)).block_at (sym here) ∙ at)
      | inr other ↦ bytes_apart h y part bytes b other ∙ was b xs (sym (ap is_some (cell_apart h y part bytes b other)) ∙ some) (sym (sees_apart b other) ∙ at)
    ];
    there = λ b has. elim (cases_eq b y) [
      | inl here ↦ (bytes, ap (seen_with v (insert fates y fate)).block_at here ∙ sees_here)
      | inr other ↦ (has.0, sees_apart b other ∙ has.1)
    ];
    keeps = some_still h y part bytes;
  }
    where
      one_bytes : (x z : List ℕ) → Some x ≡ Some z → x ≡ z
      one_bytes x z e = cc

none_bytes : (c d : Option Cell) → (IsSome d → ⊥) → (IsSome c → IsSome d) → cell_bytes d ≡ cell_bytes c
none_bytes None None none keeps = refl
none_bytes (Some c) None none keeps = absurd (none (keeps refl))
none_bytes c (Some d) none keeps = absurd (none refl)

some_or_none : (c : Option Cell) → IsSome c ⊎ (IsSome c → ⊥)
some_or_none None = inr (λ e. cc)
some_or_none (Some c) = inl refl

pub puts_then : (v : Seen) (old mid new : FinMap nat_cmp Fate) (h m g : Holding) → Puts v old mid h m → Puts v mid new m g → Puts v old new h g
puts_then v old mid new h m g first second = record {
  own = second.own ∙ first.own;
  drafted = record {
    own = λ b some. elim (second.drafted.own b some) [
      | inr put ↦ inr put
      | inl left ↦ elim (some_or_none (m.cell b)) [
        | inl was ↦ elim (first.drafted.own b was) [
          | inl before ↦ inl (left.0 ∙ before.0, left.1 ∙ before.1)
          | inr put ↦ inr (left.0 ∙ put ∙ ap₂ (λ o x. Some (Put (inode_lock o) false x)) (sym second.own) (sym left.1))
        ]
        | inr none ↦ inl (left.0 ∙ first.drafted.others b none, left.1 ∙ none_bytes (h.cell b) (m.cell b) none (first.keeps b))
      ]
    ];
    others = λ b none. second.drafted.others b none ∙ first.drafted.others b (λ some. none (second.keeps b some));
  };
  seen = λ was. second.seen (first.seen was);
  there = λ b has. second.there b (first.there b has);
  keeps = λ b some. second.keeps b (first.keeps b some);
}

-- ---- in a draft

-- what is seen of a block is still seen where another one is put
pub sees_still : {V : Type 0} (seen : V → Seen) (d d' : Drafted V) (b c : ℕ) (lock : LockName) (bytes xs : List ℕ) → d' ≡ record d { fates = insert d.fates b (Put lock false bytes) } → c ≢ b
    → (seen_in seen d).block_at c ≡ Some xs → (seen_in seen d').block_at c ≡ Some xs
sees_still {V} seen d d' b c lock bytes xs is other there =
    ap (λ (x : Drafted V). (seen_in seen x).block_at c) is ∙ ap (λ f. block_with f ((seen d.view).block_at c)) (fate_apart d.fates b (Put lock false bytes) c other) ∙ there

-- a new leaf, a changed one and the dinode, one after another
pub three_fates : {V : Type 0} (old two now : Drafted V) (own dir b x : ℕ) (new changed dinode : List ℕ) → own ≡ dir
    → two ≡ record old { fates = insert (insert old.fates b (Put (inode_lock dir) false new)) x (Put (inode_lock dir) false changed) }
    → now ≡ record two { fates = insert two.fates dir (Put (inode_lock dir) false dinode) }
    → insert (insert (insert old.fates b (Put (inode_lock own) false new)) x (Put (inode_lock own) false changed)) own (Put (inode_lock own) false dinode) ≡ now.fates
three_fates {V} old two now own dir b x new changed dinode is first second =
    ap (λ o. insert (insert (insert old.fates b (Put (inode_lock o) false new)) x (Put (inode_lock o) false changed)) o (Put (inode_lock o) false dinode)) is
    ∙ sym (ap (λ (d : Drafted V). d.fates) second ∙ ap (λ (d : Drafted V). insert d.fates dir (Put (inode_lock dir) false dinode)) first)
