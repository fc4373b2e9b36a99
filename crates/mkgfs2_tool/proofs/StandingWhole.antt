-- Each block of a new image is whole, and its superblock reads as it was laid.
use Rattle.std.proofs.Common.{ℕ, zero, suc, ◌≡◌, ◌+◌, ◌-◌, ◌*◌, ◌^◌, ◌<◌, ◌≤◌, ◌⊎◌, inl, inr, List, length, drop, replicate, Ok, None, refl, sym, ap, ◌∙◌, subst, arith, length-append}
use Rattle.std.specs.Prelude.{min}
use Rattle.std.specs.List.{AllByRecursion}
use Rattle.std.proofs.lemmas.Bool.{cases_lt, cases_eq, cases_Bool, cond-true, cond-false, eq-eqb, ne_eqb, lt-ltb, le-ltb}
use Rattle.std.proofs.lemmas.List.{length-replicate, length-take}
use Rattle.std.proofs.lemmas.List.FromFn.{length-map-range_with_len}
use Rattle.gfs2_layout.specs.Bytes.{slice, put_at}
use Rattle.gfs2_layout.specs.Fields.{HasItsWidth}
use Rattle.gfs2_layout.specs.Laws.{HasTextLengths}
use Rattle.gfs2_layout.specs.declared.dinode.Dinode.{Dinode}
use Rattle.gfs2_layout.specs.Structures.{superblock_of, superblock_read, header_fault}
use Rattle.gfs2_layout.specs.Writing.{superblock_fields, superblock_put, group_put, header_put, dinode_put}
use Rattle.log_layout.specs.Headers.{log_put}
use Rattle.gfs2_layout.specs.declared.group_header.GroupHeader.{GroupHeader}
use Rattle.gfs2_layout.specs.declared.header.MetaHeader.{MetaHeader}
use Rattle.log_layout.specs.declared.log_header.LogHeader.{LogHeader}
use Rattle.gfs2_layout.specs.Headers.{HasHeader}
use Rattle.mkgfs2_tool.specs.Groups.{super_block, last_group, headers_of, first_data, data_blocks, data_before, data_address}
use Rattle.mkgfs2_tool.specs.Files.{height, level_start}
use Rattle.mkgfs2_tool.specs.Order.{master_place, root_place, journal_place, journals_place, has_hashed_journals, journal_leaves, leaf_place, taken}
use Rattle.mkgfs2_tool.specs.Directories.{records, master_entries, root_entries, journals_entries}
use Rattle.mkgfs2_tool.specs.Blocks.{group_block, data_block, zeros, shift_of, superblock, bitmap_byte, bitmap, group_header, first_header_block, further_header_block, header_block, area_length, dinode, directory, group_entries, group_list_block, journal_block, clean_header, clean_block, first_content, used_block, new_block}
use Rattle.mkgfs2_tool.specs.Making.{IsFitting}
use Rattle.mkgfs2_tool.specs.declared.directory.Entry.{Entry}
use Rattle.mkgfs2_tool.specs.declared.files.Part.TheVariants.{Content}
use Rattle.mkgfs2_tool.specs.declared.plan.Plan.{Plan}
use Rattle.mkgfs2_tool.proofs.StandingGiven.{Given, Known, length_put, zeros_are_bytes}
use Rattle.mkgfs2_tool.proofs.StandingBytes.{answer_ok, header_from, filled}
use Rattle.mkgfs2_tool.proofs.StandingShapes.{IsBelow, Piece, is_top, is_below, piece}
use Rattle.mkgfs2_tool.proofs.StandingPlan.{new_at, new_header, new_room, new_super, address_at, address_low}
use Rattle.mkgfs2_tool.proofs.StandingOwners.{file_shape, file_use, spot, Zone, is_low, is_past, is_header, is_room, is_end, zone, Kept, is_master, is_root, is_journals, is_leaf, is_file, kept, leaf_taken, use_of_leaf, in_all, some_taken, two_taken}
use Rattle.mkgfs2_tool.proofs.StandingFiles.{file_low, large, size_few, file_dinode_is, inner_block, content_at}
use Rattle.mkgfs2_tool.proofs.StandingRecords.{records_are}
use Rattle.mkgfs2_tool.proofs.StandingDirs.{IsDirectoryAt, used_at, master_at, root_at, journals_at}
use Rattle.mkgfs2_tool.proofs.StandingLeaves.{leaf_block_is}
use Rattle.mkgfs2_tool.proofs.StandingTable.{hashed_long}

-- ---- lengths of what is put over zeros

clear_long : (size : ℕ) → length (replicate {A = ℕ} size 0) ≡ size
clear_long size = length-replicate {A = ℕ} size 0

put_long : (n size : ℕ) (part bytes : List ℕ) → length bytes ≡ size → n + length part ≤ size → length (put_at n part bytes) ≡ size
put_long n size part bytes long fits = length_put n part bytes (omega (arith, long, fits)) ∙ long

clear_room : (n size : ℕ) → n ≤ 272 → 512 ≤ size → n ≤ length (replicate {A = ℕ} size 0)
clear_room n size few large = omega (arith, clear_long size, few, large)

pub group_put_long : (given : Given) (size : ℕ) (g : GroupHeader) → 512 ≤ size → length (group_put g (replicate size 0)) ≡ size
group_put_long given size g large = given.structures.group.as_long g (replicate size 0) (clear_room 128 size (omega arith) large) tt ∙ clear_long size

pub header_put_long : (given : Given) (size : ℕ) (h : MetaHeader) → 512 ≤ size → length (header_put h (replicate size 0)) ≡ size
header_put_long given size h large = given.structures.header.as_long h (replicate size 0) (clear_room 24 size (omega arith) large) tt ∙ clear_long size

dinode_put_long : (given : Given) (size : ℕ) (d : Dinode) → 512 ≤ size → length (dinode_put d (replicate size 0)) ≡ size
dinode_put_long given size d large = given.structures.dinode.as_long d (replicate size 0) (clear_room 232 size (omega arith) large) tt ∙ clear_long size

log_put_long : (given : Given) (size : ℕ) (h : LogHeader) → 512 ≤ size → length (log_put h (replicate size 0)) ≡ size
log_put_long given size h large = given.headers.as_long h (replicate size 0) (clear_room 120 size (omega arith) large) ∙ clear_long size

-- ---- the superblock

shift_low : (size : ℕ) → (size ≡ 512) ⊎ ((size ≡ 1024) ⊎ ((size ≡ 2048) ⊎ (size ≡ 4096))) → shift_of size < 2 ^ 32
shift_low size (inl e) = subst (λ n. shift_of n < 2 ^ 32) (sym e) (omega arith)
shift_low size (inr (inl e)) = subst (λ n. shift_of n < 2 ^ 32) (sym e) (omega arith)
shift_low size (inr (inr (inl e))) = subst (λ n. shift_of n < 2 ^ 32) (sym e) (omega arith)
shift_low size (inr (inr (inr e))) = subst (λ n. shift_of n < 2 ^ 32) (sym e) (omega arith)

pub shift_is : (size : ℕ) → (size ≡ 512) ⊎ ((size ≡ 1024) ⊎ ((size ≡ 2048) ⊎ (size ≡ 4096))) → 2 ^ shift_of size ≡ size
shift_is size (inl e) = subst (λ n. 2 ^ shift_of n ≡ n) (sym e) refl
shift_is size (inr (inl e)) = subst (λ n. 2 ^ shift_of n ≡ n) (sym e) refl
shift_is size (inr (inr (inl e))) = subst (λ n. 2 ^ shift_of n ≡ n) (sym e) refl
shift_is size (inr (inr (inr e))) = subst (λ n. 2 ^ shift_of n ≡ n) (sym e) refl

module _ (p : Plan) (fit : IsFitting p) (known : Known p) where
  near : (k : ℕ) → k < taken p → data_address p k < 2 ^ 64
  near k low = through (data_address p k) p.count (address_low p fit k (in_all p fit k low)) fit.count
    where
      through : (a c : ℕ) → a < c → c ≤ 131072 → a < 2 ^ 64
      through a c low few = omega (arith, low, few)

  lengths : HasTextLengths (superblock p)
  lengths = record { lock_protocol = refl; lock_table = refl; uuid = known.uuid }

  super_widths : AllByRecursion HasItsWidth (superblock_fields (superblock p))
  super_widths = (
    omega arith,
    (
      omega arith,
      (
        omega arith,
        (
          omega arith,
          (
            omega arith,
            (
              omega arith,
              (
                size_low p.size (size_few p fit known),
                (
                  shift_low p.size fit.plan.size,
                  (omega arith, (near master_place (some_taken p), (omega arith, (near root_place (two_taken p), tt)))),
                ),
              ),
            ),
          ),
        ),
      ),
    ),
  )
    where
      size_low : (s : ℕ) → s ≤ 4096 → s < 2 ^ 32
      size_low s few = omega (arith, few)

  super_back : superblock_read (superblock_put (superblock p) (zeros p)) ≡ Ok (superblock p)
  super_back = known.given.structures.superblock.back (superblock p) (zeros p) (clear_room 272 p.size (omega arith) (large p fit known)) (zeros_are_bytes p.size) lengths super_widths

  pub record IsSuperBlock (bytes : List ℕ) : Type 0 where
    pub header : HasHeader 1 100 bytes
    pub is : superblock_of bytes ≡ superblock p

  pub super_is : IsSuperBlock (new_block p (super_block p))
  super_is = subst IsSuperBlock (sym (new_super p fit)) (from (answer_ok (header_fault 272 1 100 bytes) (superblock_of bytes) (superblock p) super_back))
    where
      bytes : List ℕ
      bytes = superblock_put (superblock p) (zeros p)

      from : (header_fault 272 1 100 (superblock_put (superblock p) (zeros p)) ≡ None) × (superblock_of (superblock_put (superblock p) (zeros p)) ≡ superblock p) → IsSuperBlock (superblock_put (superblock p) (zeros p))
      from e = record { header = header_from 272 1 100 (superblock_put (superblock p) (zeros p)) e.0; is = e.1 }

  super_long : length (superblock_put (superblock p) (zeros p)) ≡ p.size
  super_long = known.given.structures.superblock.as_long (superblock p) (zeros p) (clear_room 272 p.size (omega arith) (large p fit known)) lengths ∙ clear_long p.size

  -- ---- blocks of groups

  pub bitmap_long : (g start count : ℕ) → length (bitmap p g start count) ≡ count
  bitmap_long g start count = length-map-range_with_len (bitmap_byte p g) start count

  first_long : (g : ℕ) → length (first_header_block p g) ≡ p.size
  unfolding first_header_block
  first_long g = put_long 128 p.size (bitmap p g 0 (p.size - 128)) (group_put (group_header p g) (zeros p)) (group_put_long known.given p.size (group_header p g) (large p fit known))
      (room p.size (length (bitmap p g 0 (p.size - 128))) (bitmap_long g 0 (p.size - 128)) (large p fit known))
    where
      room : (s n : ℕ) → n ≡ s - 128 → 512 ≤ s → 128 + n ≤ s
      room s n e large = omega (arith, e, large)

  further_long : (g n : ℕ) → length (further_header_block p g n) ≡ p.size
  unfolding further_header_block
  further_long g n = put_long 24 p.size (bitmap p g (p.size - 128 + (n - 1) * (p.size - 24)) (p.size - 24)) (header_put (record { kind = 3; format = 300; jid = 0 }) (zeros p)) (header_put_long known.given p.size (record { kind = 3; format = 300; jid = 0 }) (large p fit known))
      (room p.size (length (bitmap p g (p.size - 128 + (n - 1) * (p.size - 24)) (p.size - 24))) (bitmap_long g (p.size - 128 + (n - 1) * (p.size - 24)) (p.size - 24)) (large p fit known))
    where
      room : (s n : ℕ) → n ≡ s - 24 → 512 ≤ s → 24 + n ≤ s
      room s n e large = omega (arith, e, large)

  header_long : (g n : ℕ) → length (header_block p g n) ≡ p.size
  header_long g n = elim (cases_eq n 0) [
    | inl e ↦ ap length (cond-true _ (first_header_block p g) (further_header_block p g n) (eq-eqb n 0 e)) ∙ first_long g
    | inr d ↦ ap length (cond-false _ (first_header_block p g) (further_header_block p g n) (ne_eqb n 0 d)) ∙ further_long g n
  ]

  -- ---- blocks that are taken

  dir_long : (place number count links : ℕ) (es : List Entry) → IsDirectoryAt p place number count links es → length (new_block p (data_address p place)) ≡ p.size
  dir_long place number count links es is = ap length is.block ∙ put_long 232 p.size (records (area_length p) es) (dinode_put (dinode p number place (directory p count links)) (zeros p)) (dinode_put_long known.given p.size (dinode p number place (directory p count links)) (large p fit known))
      (room p.size (length (records (area_length p) es)) (records_are known.given (area_length p) es is.entries is.fit (short p.size (size_few p fit known))).long (large p fit known))
    where
      room : (s n : ℕ) → n ≡ s - 232 → 512 ≤ s → 232 + n ≤ s
      room s n e large = omega (arith, e, large)

      short : (s : ℕ) → s ≤ 4096 → s - 232 < 2 ^ 16
      short s few = omega (arith, few)

  filled_long : (bytes : List ℕ) → length bytes ≤ p.size → length (filled p.size bytes) ≡ p.size
  filled_long bytes le = length-append bytes (replicate (p.size - length bytes) 0) ∙ sum (length bytes) (length (replicate {A = ℕ} (p.size - length bytes) 0)) p.size le (clear_long (p.size - length bytes))
    where
      sum : (n m s : ℕ) → n ≤ s → m ≡ s - n → n + m ≡ s
      sum n m s le e = omega (arith, le, e)

  content_long : (i x : ℕ) → length (used_block p (file_use i (Content x))) ≡ p.size
  unfolding group_list_block journal_block clean_block group_entries used_block
  content_long zero x = filled_long (slice (x * p.size) p.size (group_entries p)) (least p.size (length (drop (x * p.size) (group_entries p))) (length (slice (x * p.size) p.size (group_entries p))) (length-take p.size (drop (x * p.size) (group_entries p))))
    where
      least : (s n m : ℕ) → m ≡ min s n → m ≤ s
      least s n m e = omega (arith, e)
  content_long (suc j) x = elim (cases_eq x 0) [
    | inl e ↦ ap length (cond-true _ (clean_block p j) (zeros p) (eq-eqb x 0 e)) ∙ log_put_long known.given p.size (clean_header p.time j (data_address p (first_content p j)) (data_address p (journal_place p j))) (large p fit known)
    | inr d ↦ ap length (cond-false _ (clean_block p j) (zeros p) (ne_eqb x 0 d)) ∙ clear_long p.size
  ]

  below_long : (i l x : ℕ) → i ≤ p.journals → IsBelow (file_shape p i) l x → length (new_block p (spot p i (level_start (file_shape p i) l + x))) ≡ p.size
  below_long i l x ok at = elim (cases_lt l (height (file_shape p i))) [
    | inl less ↦ (inner_block p fit known i l x ok at less).long
    | inr ge ↦ last (same l (height (file_shape p i)) at.low ge)
  ]
    where
      same : (l n : ℕ) → l ≤ n → n ≤ l → l ≡ n
      same l n a b = omega (arith, a, b)

      last : l ≡ height (file_shape p i) → length (new_block p (spot p i (level_start (file_shape p i) l + x))) ≡ p.size
      last e =
          let at' : IsBelow (file_shape p i) (height (file_shape p i)) x = subst (λ n. IsBelow (file_shape p i) n x) e at in
          ap (λ n. length (new_block p (spot p i (level_start (file_shape p i) n + x)))) e ∙ ap length (content_at p fit known i x ok at'.some at'.inside) ∙ content_long i x

  journals_long : length (new_block p (data_address p (journals_place p))) ≡ p.size
  journals_long = elim (cases_Bool (has_hashed_journals p)) [
    | inr linear ↦ dir_long (journals_place p) 4 (2 + p.journals) 2 (journals_entries p) (journals_at p fit known linear)
    | inl hashed ↦ hashed_long p fit known hashed
  ]

  leaf_long : (n : ℕ) → n < journal_leaves p → length (new_block p (data_address p (leaf_place p n))) ≡ p.size
  unfolding used_block
  leaf_long n low = ap length (used_at p fit known (leaf_place p n) (leaf_taken p n low) ∙ ap (used_block p) (use_of_leaf p n low)) ∙ (leaf_block_is p fit known n).long

  taken_long : (k : ℕ) → k < taken p → length (new_block p (data_address p k)) ≡ p.size
  taken_long k low = each (kept p k low)
    where
      of_piece : (i n : ℕ) → i ≤ p.journals → Piece (file_shape p i) n → length (new_block p (spot p i n)) ≡ p.size
      of_piece i n ok (is_top e) = ap (λ m. length (new_block p (spot p i m))) e ∙ (file_dinode_is p fit known i ok).long
      of_piece i n ok (is_below l x at e) = ap (λ m. length (new_block p (spot p i m))) e ∙ below_long i l x ok at

      each : Kept p k → length (new_block p (data_address p k)) ≡ p.size
      each (is_master e) = ap (λ m. length (new_block p (data_address p m))) e ∙ dir_long master_place 1 4 3 (master_entries p) (master_at p fit known)
      each (is_root e) = ap (λ m. length (new_block p (data_address p m))) e ∙ dir_long root_place 2 2 2 (root_entries p) (root_at p fit known)
      each (is_journals e) = ap (λ m. length (new_block p (data_address p m))) e ∙ journals_long
      each (is_leaf n inside e) = ap (λ m. length (new_block p (data_address p m))) e ∙ leaf_long n inside
      each (is_file i n ok inside e) = ap (λ m. length (new_block p (data_address p m))) e ∙ of_piece i n ok (piece (file_shape p i) (file_low p fit known i) n inside)

  room_long : (g r : ℕ) → g ≤ last_group p → r < data_blocks p g → length (new_block p (first_data p g + r)) ≡ p.size
  unfolding data_block
  room_long g r ok inside = elim (cases_lt (data_before p g + r) (taken p)) [
    | inl less ↦ ap (λ n. length (new_block p n)) (sym (address_at p fit g r ok inside)) ∙ taken_long (data_before p g + r) less
    | inr ge ↦ ap length (new_room p fit g r ok inside ∙ cond-false _ _ _ (le-ltb (data_before p g + r) (taken p) ge)) ∙ clear_long p.size
  ]

  pub new_whole : (b : ℕ) → b < p.count → length (new_block p b) ≡ p.size
  unfolding new_block group_block
  new_whole b low = each (zone p fit b)
    where
      never : (b c : ℕ) → b < c → c ≤ b → ⊥
      never b c less le = absurd (omega (arith, less, le))

      beyond : (n h d : ℕ) → h + d ≤ n → (h ≤ n) × (d ≤ n - h)
      beyond n h d far = (omega (arith, far), omega (arith, far))

      each : Zone p b → length (new_block p b) ≡ p.size
      each (is_low le) = elim (cases_lt b (super_block p)) [
        | inl less ↦ ap length (cond-true _ _ _ (lt-ltb b (super_block p) less)) ∙ clear_long p.size
        | inr ge ↦ ap (λ n. length (new_block p n)) (same b (super_block p) le ge) ∙ ap length (new_super p fit) ∙ super_long
      ]
        where
          same : (l n : ℕ) → l ≤ n → n ≤ l → l ≡ n
          same l n a b = omega (arith, a, b)
      each (is_past h ge) = absurd (never b p.count low ge)
      each (is_header g n ok inside e) = ap (λ m. length (new_block p m)) e ∙ ap length (new_header p fit g n ok inside) ∙ header_long g n
      each (is_room g r ok inside e) = ap (λ m. length (new_block p m)) e ∙ room_long g r ok inside
      each (is_end g n ok far inside e) =
          ap (λ m. length (new_block p m)) e ∙ ap length (new_at p fit g n ok inside
          ∙ cond-false _ _ _ (le-ltb n (headers_of p g) (beyond n (headers_of p g) (data_blocks p g) far).0)
          ∙ cond-false _ _ _ (le-ltb (n - headers_of p g) (data_blocks p g) (beyond n (headers_of p g) (data_blocks p g) far).1)) ∙ clear_long p.size
