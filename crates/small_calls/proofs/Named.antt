-- A directory to which a name comes: to which of its blocks something is done, and how many blocks it takes.
use Rattle.std.proofs.Common.{◌≡◌, ◌+◌, ◌*◌, ◌/◌, ◌^◌, ◌<◌, ◌≤◌, ◌⊎◌, ℕ, inl, inr, true, List, ◌∷◌, ◌++◌, length, sym, subst, ◌∙◌, arith}
use Rattle.std.proofs.Math.ListN.{length-append}
use Rattle.crc_words.specs.Remainder.{crc32_of}
use Rattle.gfs2_layout.specs.Device.{IsBlockSize}
use Rattle.gfs2_layout.specs.Holding.{Holding}
use Rattle.gfs2_layout.specs.Inode.{depth_in, entry, entry_block, first_hash, is_directory_in, is_hashed_in, table_count}
use Rattle.dinode_tree.specs.Below.{IsBelow}
use Rattle.dinode_tree.proofs.Sound.{led_of_part}
use Rattle.small_changes.specs.Pointers.{HasPointerOf}
use Rattle.hash_dirs.specs.Shown.{IsSound, index_for}
use Rattle.hash_dirs.proofs.Chained.{index_low}
use Rattle.hash_dirs.proofs.Indexes.{run_within}
use Rattle.hash_steps.specs.Leaves.{first_of, leaf_depth, run_of}
use Rattle.file_calls.specs.HashInserting.{IsInsertedAt, a_leaf_with_room, its_dinode, of_pointers, of_table, one_taken, the_last_leaf}
use Rattle.file_calls.specs.NameInserting.{IsNamedAt, of_converted, of_hashed, of_linear}
use Rattle.file_calls.specs.Need.{chain_of, name_need}
use Rattle.file_calls.proofs.Led.{entry_below}
use Rattle.image_model.proofs.Lengths.{size_large}
use Rattle.image_model.proofs.Members.{IsIn, in_left, in_right, is_in}
use Rattle.small_changes.specs.Counting.{IsSmallChain}
use Rattle.small_changes.proofs.NameNeed.{names_take_few}
use Rattle.small_calls.proofs.Leaves.{IsLeafFor, last_one, with_room}
use Rattle.small_calls.proofs.TableBlocks.{below_in, below_many, blocks_below}

narrow : (size : ℕ) → IsBlockSize size → size ≤ 4096
narrow size (inl e) = omega (arith, e)
narrow size (inr (inl e)) = omega (arith, e)
narrow size (inr (inr (inl e))) = omega (arith, e)
narrow size (inr (inr (inr e))) = omega (arith, e)

-- the pointers that lead where a pointer leads are all of the table
run_low : (h : Holding) (i : ℕ) → IsSound h → is_hashed_in h ≡ true → i < table_count h → first_of h i + run_of h (leaf_depth h i) ≤ table_count h
run_low h i sound hashed low =
    let is = sound.inode.hashed hashed in
    let depth : leaf_depth h i ≤ depth_in h = (is.leaves (entry h i) (first_hash h i) 0 (is.leads i low)).depth in
    by (i / run_of h (leaf_depth h i)) (run_of h (leaf_depth h i)) (table_count h) (run_within i (depth_in h) (leaf_depth h i) depth low)
  where
    by : (q r all : ℕ) → (q + 1) * r ≤ all → q * r + r ≤ all
    by q r all most = omega (arith, most)

module _ (h : Holding) (name : List ℕ) (sound : IsSound h) (directory : is_directory_in h ≡ true) (hash : crc32_of name < 2 ^ 32) where
  wide : 512 ≤ h.size
  wide = size_large h.size sound.block_size

  module _ (is : is_hashed_in h ≡ true) where
    its_index : index_for h name < table_count h
    its_index = index_low h sound is name hash

    small_chain : IsSmallChain (chain_of h name)
    small_chain =
        let rules = sound.inode.hashed is in
        record {
          wide = wide;
          narrow = narrow h.size sound.block_size;
          table = rules.greatest;
          height = sound.inode.fits.low;
          depth = (rules.leaves (entry h (index_for h name)) (first_hash h (index_for h name)) 0 (rules.leads (index_for h name) its_index)).depth;
        }

    below : (b : ℕ) → IsBelow h b → IsIn b (blocks_below h)
    below b led = let rules = sound.inode.hashed is in below_in h sound.inode wide directory rules.size rules.greatest b led

    of_its_pointers : (b : ℕ) → HasPointerOf h (first_of h (index_for h name)) (run_of h (leaf_depth h (index_for h name))) b → (b ≡ h.own) ⊎ IsIn b (blocks_below h)
    of_its_pointers b (i, inside, at) =
        let low : i < table_count h = (let run = run_low h (index_for h name) sound is its_index in let high = inside.high in omega (arith, run, high)) in
        elim (entry_below h wide directory sound.inode.fits (sound.inode.hashed is).size i low) [
          | inl own ↦ inl (at ∙ own)
          | inr led ↦ inr (subst (λ x. IsIn x (blocks_below h)) (sym at) (below (entry_block h i) led))
        ]

  -- at most so many blocks it takes
  pub takes_few : name_need h name ≤ 105
  takes_few = names_take_few h name sound.block_size small_chain

  -- ---- to which something is done

  module _ (g : Holding) (taken : List ℕ) where
    abbrev pub named_list : List ℕ
    named_list = h.own ∷ (taken ++ blocks_below h)

    pub list_many : length named_list ≡ 87 + length taken
    list_many = let all = length-append taken (blocks_below h) in let some = below_many h in omega (arith, all, some)

    inserted_at : (b : ℕ) → is_hashed_in h ≡ true → IsInsertedAt h g name taken b → IsIn b named_list ⊎ IsLeafFor h (index_for h name) (length name) b
    inserted_at b is (its_dinode own) = inl (inl own)
    inserted_at b is (a_leaf_with_room place chain full room) = inr (with_room place chain full room)
    inserted_at b is (the_last_leaf place none chain last) = inr (last_one place none chain last)
    inserted_at b is (one_taken one) = inl (inr (in_left b taken (blocks_below h) (is_in b taken one)))
    inserted_at b is (of_pointers none one less has) = elim (of_its_pointers is b has) [ inl own ↦ inl (inl own) | inr led ↦ inl (inr (in_right b taken (blocks_below h) led)) ]
    inserted_at b is (of_table above k level first none one deeper part) =
        inl (inr (in_right b taken (blocks_below h) (below is b (led_of_part h b above k level first sound.inode sound.placed.nobody part))))

    pub named_at : (b : ℕ) → IsNamedAt h g name taken b → IsIn b named_list ⊎ IsLeafFor h (index_for h name) (length name) b
    named_at b (of_linear plain room own) = inl (inl own)
    named_at b (of_hashed is inserted) = inserted_at b is inserted
    named_at b (of_converted plain none (inl own)) = inl (inl own)
    named_at b (of_converted plain none (inr one)) = inl (inr (in_left b taken (blocks_below h) (is_in b taken one)))
