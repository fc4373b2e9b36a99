-- Which blocks of a file a draft sees after steps that leave each block where it stood.
use Rattle.std.proofs.Common.{◌≡◌, ◌≢◌, inl, inr, Option, None, Some, ℕ, ◌*◌, ◌<◌, List, [], refl, sym, ap, subst, ◌∙◌, arith}
use Rattle.std.specs.Prelude.{Contains, IsSome}
use Rattle.std.specs.FinMap.{FinMap, get}
use Rattle.std.specs.Ordering.{nat_cmp}
use Rattle.drafts.specs.Fates.{block_with, seen_with}
use Rattle.drafts.specs.declared.fate.Fate.{Fate}
use Rattle.gfs2_layout.specs.Holding.{Cell, Holding, bytes_at}
use Rattle.gfs2_layout.specs.Inode.{height_in, span}
use Rattle.glock_names.specs.Views.{Seen, HasBlock}
use Rattle.dinode_tree.proofs.Sound.{is_there}
use Rattle.dinode_tree.proofs.Spans.{span_some}
use Rattle.growth_laws.specs.Files.{IsFile, IsPlaced, block_on, places_on, with_cells}
use Rattle.growth_laws.proofs.Places.{cancelled, part_of_place, place_of_part, size_large}
use Rattle.growth_drafts.specs.Taken.{DraftsFile, HasTaken}
use Rattle.growth_drafts.proofs.Rooms.{none_in, none_some}
use Rattle.file_walks.specs.Walks.{place_above}
use Rattle.file_fills.specs.Filling.{IsSeenWay}

module _ (old new : FinMap nat_cmp Fate) (v : Seen) (h : Holding) (cell : ℕ → Option Cell) (taken : List ℕ) (drafted : DraftsFile old new h (with_cells h cell) []) where
  -- what the draft saw it sees
  pub has_along : (b : ℕ) → HasBlock (seen_with v old) b → HasBlock (seen_with v new) b
  has_along b (bytes, has) = each (cell b) refl
    where
      same : get new b ≡ get old b → HasBlock (seen_with v new) b
      same e = (bytes, ap (λ fate. block_with fate (v.block_at b)) e ∙ has)

      each : (o : Option Cell) → cell b ≡ o → HasBlock (seen_with v new) b
      each None e = same (drafted.others b (none_some (cell b) e) (none_in b))
      each (Some c) e = elim (drafted.own b (subst IsSome (sym e) refl)) [
        | inl left ↦ same left.fate
        | inr put ↦ (bytes_at (with_cells h cell) b, ap (λ fate. block_with fate (v.block_at b)) put.fate)
      ]

  -- a way that it saw, and with it the blocks that were taken for it
  pub ways_along : (i : ℕ) → IsFile h → IsFile (with_cells h cell) → HasTaken h (with_cells h cell) taken → ((b : ℕ) → Contains taken b → h.cell b ≡ None)
      → ((b level first : ℕ) → IsSome (h.cell b) → IsPlaced (with_cells h cell) b level first → IsPlaced h b level first)
      → IsSeenWay (seen_with v old) h i → IsSeenWay (seen_with v new) (with_cells h cell) i
  ways_along i file file' blocks free places way = record { dinode = has_along h.own way.dinode; blocks = each }
    where
      each : (l : ℕ) → l < height_in (with_cells h cell) → place_above h.size 0 i l < places_on (with_cells h cell) l → block_on (with_cells h cell) l (place_above h.size 0 i l) ≢ 0
          → HasBlock (seen_with v new) (block_on (with_cells h cell) l (place_above h.size 0 i l))
      each l less low some = elim ((blocks.blocks c).0 there) [
        | inl had ↦
            let was : IsPlaced h c l (place_above h.size 0 i l * span h.size l) = places c l (place_above h.size 0 i l * span h.size l) had placed in
            let found = place_of_part h file c l (place_above h.size 0 i l * span h.size l) was in
            let same : found.0 ≡ place_above h.size 0 i l = cancelled found.0 (place_above h.size 0 i l) (span h.size l) (span_some h.size l (size_large h.size file.block_size)) (sym found.1) in
            let is : block_on h l (place_above h.size 0 i l) ≡ c = ap (block_on h l) (sym same) ∙ found.3 in
            let low' : place_above h.size 0 i l < places_on h l = subst (λ n. n < places_on h l) same found.2 in
            has_along c (subst (HasBlock (seen_with v old)) is (way.blocks l (file.tree.below c was.0 was.1 l (place_above h.size 0 i l * span h.size l) was.2) low' (λ none. some (sym is ∙ none))))
        | inr new_one ↦ elim (drafted.own c there) [
          | inl left ↦ absurd (none_some (h.cell c) (free c new_one) left.had)
          | inr put ↦ (bytes_at (with_cells h cell) c, ap (λ fate. block_with fate (v.block_at c)) put.fate)
        ]
      ]
        where
          c : ℕ
          c = block_on (with_cells h cell) l (place_above h.size 0 i l)

          placed : IsPlaced (with_cells h cell) c l (place_above h.size 0 i l * span h.size l)
          placed = part_of_place (with_cells h cell) file' l (place_above h.size 0 i l) less low some

          there : IsSome (cell c)
          there = is_there (cell c) _ placed.2
