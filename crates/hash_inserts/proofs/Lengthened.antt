-- A directory after a leaf was added behind a chain of it.
use Rattle.std.proofs.Common.{◌≡◌, ◌≢◌, ℕ, ◌+◌, ◌-◌, inl, inr, true, List, [], ◌∷◌, drop, replicate, Some, refl, sym, ap, ap₂, ◌∙◌, arith}
use Rattle.std.specs.FinMap.{FinMap}
use Rattle.std.specs.Ordering.{nat_cmp}
use Rattle.std.proofs.lemmas.Bool.{cases_eq}
use Rattle.std.proofs.lemmas.List.{length-replicate}
use Rattle.drafts.specs.declared.fate.Fate.{Fate}
use Rattle.gfs2_layout.specs.Area.{slots_of}
use Rattle.gfs2_layout.specs.Holding.{Holding, Part, InChain, part_at, bytes_at}
use Rattle.gfs2_layout.specs.Inode.{dinode_in, first_hash, is_hashed_in, leaf_area, leaf_in, leaf_length}
use Rattle.gfs2_layout.specs.declared.dinode.Dinode.{Dinode}
use Rattle.glock_names.specs.Views.{Seen}
use Rattle.leaf_areas.specs.Moving.{unused}
use Rattle.hash_steps.specs.Shown.{IsInChain, IsSound}
use Rattle.hash_steps.proofs.Chained.{cell_some, in_chain, same_hash}
use Rattle.hash_steps.specs.Leaves.{blank}
use Rattle.hash_steps.specs.Steps.{IsLengthened}
use Rattle.hash_steps.proofs.Sound.{tree_of}
use Rattle.hash_inserts.specs.Drafting.{IsFree, Lengthens}
use Rattle.hash_inserts.specs.Writing.{IsDinodeWritten, IsLeafWritten, IsLinked, counting}
use Rattle.hash_inserts.proofs.Blockwise.{size_bounds}
use Rattle.hash_inserts.proofs.LeafBytes.{leaf_put_of}
use Rattle.hash_inserts.proofs.Trees.{in_tree}
use Rattle.hash_inserts.proofs.TwoLeaves.{AreLeaves, behind_grown, changed_bytes, changed_part, dinode_grown, entry_grown, grown, grown_fates, has_taken, new_bytes, new_part, only_grown, other_bytes, other_parts, pads_grown, placed_grown, puts_grown, sees_new, sound_grown}

-- the dinode counts a block more
pub one_block : (d : Dinode) → counting d 0 0 1 ≡ record d { blocks = d.blocks + 1 }
one_block d = ap₂ (λ n m. record d { entries = n; nlink = m; blocks = d.blocks + 1 }) (none d.entries) (none d.nlink)
  where
    none : (n : ℕ) → n + 0 ≡ n
    none n = omega arith

module _ (h : Holding) (i place x b : ℕ) (new changed dinode : List ℕ) (sound : IsSound h) (hashed : is_hashed_in h ≡ true) (chain : IsInChain h i place x) (ends : (leaf_in h x).next ≡ 0) (free : IsFree h b)
    (empty : IsLeafWritten (replicate h.size 0) new (record { depth = (leaf_in h x).depth; entries = 0; next = 0 }) (unused (h.size - leaf_length) ∷ []))
    (linked : IsLinked (bytes_at h x) changed b) (written : IsDinodeWritten (bytes_at h h.own) dinode (counting (dinode_in h) 0 0 1)) where
  part_x : part_at h x ≡ Some (InChain (first_hash h i) place)
  part_x = in_chain h sound hashed i place x chain

  abbrev pub part_b : Part
  part_b = InChain (first_hash h i) (place + 1)

  abbrev pub part_last : Part
  part_last = InChain (first_hash h i) place

  pub are : AreLeaves h b x part_b part_last new changed
  are = record {
    fresh = free.new;
    some = free.some;
    inside = free.inside;
    there = cell_some (h.cell x) (InChain (first_hash h i) place) part_x;
    a_leaf = ap in_tree part_x;
    in_chain = refl;
    in_chain' = refl;
    long = empty.long ∙ (let z : ℕ = 0 in length-replicate h.size z);
    long' = linked.written.long ∙ sound.inode.whole x (InChain (first_hash h i) place) part_x;
  }

  abbrev pub after : Holding
  after = grown h b x part_b part_last new changed dinode (tree_of h sound.inode) sound.placed are written

  parts : (y : ℕ) → y ≢ b → part_at after y ≡ part_at h y
  parts y other = elim (cases_eq y x) [
    | inl here ↦ ap (part_at after) here ∙ changed_part h b x part_b part_last new changed dinode (tree_of h sound.inode) sound.placed are written ∙ sym part_x ∙ ap (part_at h) (sym here)
    | inr another ↦ other_parts h b x part_b part_last new changed dinode (tree_of h sound.inode) sound.placed are written y other another
  ]

  new_at : bytes_at after b ≡ new
  new_at = new_bytes h b x part_b part_last new changed dinode (tree_of h sound.inode) sound.placed are written

  changed_at : bytes_at after x ≡ changed
  changed_at = changed_bytes h b x part_b part_last new changed dinode (tree_of h sound.inode) sound.placed are written

  pub lengthened : IsLengthened h after i b
  lengthened = record {
    same = record {
      size = refl;
      count = refl;
      own = refl;
      tree = sound_grown h b x part_b part_last new changed dinode (tree_of h sound.inode) sound.placed are written;
      placed = placed_grown h b x part_b part_last new changed dinode (tree_of h sound.inode) sound.placed are written;
    };
    counts = record {
      dinode = dinode_grown h b x part_b part_last new changed dinode (tree_of h sound.inode) sound.placed are written ∙ one_block (dinode_in h);
      pads = pads_grown h b x part_b part_last new changed dinode (tree_of h sound.inode) sound.placed are written;
    };
    behind = behind_grown h b x part_b part_last new changed dinode (tree_of h sound.inode) sound.placed are written;
    last = x;
    at_place = place;
    chain = chain;
    ends = ends;
    new = free.new;
    new_part = λ hash at part.
        let same = same_hash (first_hash h i) hash place at (sym part_x ∙ part) in
        new_part h b x part_b part_last new changed dinode (tree_of h sound.inode) sound.placed are written ∙ ap₂ (λ n k. Some (InChain n (k + 1))) same.0 same.1;
    parts = parts;
    new_leaf = leaf_put_of after b (blank h) new (record { depth = (leaf_in h x).depth; entries = 0; next = 0 }) (unused (h.size - leaf_length) ∷ []) new_at empty;
    linked = leaf_put_of after x (bytes_at h x) changed (record (leaf_in h x) { next = b }) (slots_of (leaf_area h x)) changed_at linked.written;
    area = ap (drop leaf_length) changed_at ∙ linked.area;
    others = λ y a c d. other_bytes h b x part_b part_last new changed dinode (tree_of h sound.inode) sound.placed are written y a c d;
  }

  pub lengthens : (v : Seen) (fates : FinMap nat_cmp Fate) → Lengthens v fates (grown_fates h b x part_b part_last new changed dinode (tree_of h sound.inode) sound.placed are written fates) h after i b
  unfolding lengthened
  lengthens v fates = record {
    puts = puts_grown h b x part_b part_last new changed dinode (tree_of h sound.inode) sound.placed are written v fates;
    is = lengthened;
    only = only_grown h b x part_b part_last new changed dinode (tree_of h sound.inode) sound.placed are written fates;
    entries = entry_grown h b x part_b part_last new changed dinode (tree_of h sound.inode) sound.placed are written (size_bounds h.size sound.block_size).0;
    there = sees_new h b x part_b part_last new changed dinode (tree_of h sound.inode) sound.placed are written v fates;
    has = has_taken h b x part_b part_last new changed dinode (tree_of h sound.inode) sound.placed are written;
  }
