-- A file in a draft with other bytes in its dinode's block alone.
use Rattle.std.proofs.Common.{◌≡◌, ◌≢◌, ◌⊎◌, ℕ, ◌+◌, ◌-◌, ◌*◌, ◌<◌, ◌≤◌, min, max, inl, inr, true, false, List, length, ◌++◌, take, drop, Some, Ok, Result, Err, OnOk, refl, sym, ap, subst, ◌∙◌, arith}
use Rattle.std.proofs.lemmas.Bool.{cases_eq, cases_lt}
use Rattle.std.proofs.lemmas.List.{length-take, length-drop, length-replicate, drop-drop, drop_at, take_at, get_or-take, get_or-drop, get_or_past}
use Rattle.std.specs.Prelude.{replicate, ◌↔◌}
use Rattle.std.specs.FinMap.{insert}
use Rattle.drafts.specs.Fates.{Drafted, seen_in}
use Rattle.drafts.specs.declared.fate.Fate.TheVariants.{Put}
use Rattle.file_tree.specs.Apply.{overwritten, resized}
use Rattle.gfs2_layout.specs.Bytes.{u64_at, put_at}
use Rattle.gfs2_layout.specs.Headers.{HasHeader}
use Rattle.gfs2_layout.specs.Holding.{Itself, Holding, part_at, bytes_at}
use Rattle.gfs2_layout.specs.Inode.{dinode_in, height_in, content_of}
use Rattle.gfs2_layout.specs.Structures.{dinode_length, dinode_read}
use Rattle.gfs2_layout.specs.Writing.{zeros_from}
use Rattle.gfs2_layout.specs.declared.dinode.Dinode.{Dinode}
use Rattle.gfs2_layout.proofs.InPlace.{length-put}
use Rattle.glock_names.specs.Views.{Seen}
use Rattle.dinode_tree.specs.Reading.{inode_lock}
use Rattle.dinode_tree.specs.Shown.{IsShown}
use Rattle.growth_laws.specs.Blocks.{rewritten_cells}
use Rattle.growth_laws.specs.Files.{IsFile, with_cells}
use Rattle.growth_laws.specs.Growing.{IsTold}
use Rattle.growth_laws.specs.Steps.{IsBareTo, IsSized, IsStuffedAs}
use Rattle.growth_laws.proofs.Bare.{content_stuffed, bare_files_change_height, stuffed_content_is_put}
use Rattle.growth_laws.proofs.Bytes.{byte, same_bytes, left_byte, right_byte, zero_byte, resized_length, resized_in, over_length, over_before, over_in, over_behind}
use Rattle.growth_laws.proofs.Numbers.{written_dinodes_are_said}
use Rattle.growth_laws.proofs.Pointing.{rewrites_keep_the_rest}
use Rattle.growth_laws.proofs.Puts.{mid_byte}
use Rattle.growth_laws.proofs.Sizes.{sizes_resize}
use Rattle.growth_laws.proofs.Told.{counts_are_told}
use Rattle.growth_drafts.specs.Taken.{IsContentIn}
use Rattle.growth_steps.specs.Becoming.{Becomes}
use Rattle.growth_steps.specs.Heights.{CanBeBare, IsLedBlock}
use Rattle.growth_steps.specs.Sizes.{CanHaveSize}
use Rattle.growth_steps.specs.Stuffed.{IsStuffedBlock, stuffed_in}
use Rattle.growth_steps.proofs.Leading.{zeros_length}
use Rattle.growth_steps.proofs.Putting.{becomes_rewritten, own_is_no_content, own_seen}

-- ---- bytes

pub zeros_byte : (at : ℕ) (bytes : List ℕ) (k : ℕ) → at ≤ length bytes → ((k < at) × (byte (zeros_from at bytes) k ≡ byte bytes k)) ⊎ ((at ≤ k) × (byte (zeros_from at bytes) k ≡ 0))
zeros_byte at bytes k fits = elim (cases_lt k at) [
  | inl low ↦ inl (low, left_byte (take at bytes) (replicate (length bytes - at) 0) k (omega (arith, low, fits, length-take at bytes)) ∙ get_or-take at bytes k 0 low)
  | inr past ↦ inr (past, right_byte (take at bytes) (replicate (length bytes - at) 0) k at (omega (arith, fits, length-take at bytes)) past ∙ zero_byte (length bytes - at) (k - at))
]

-- the content behind a dinode, byte by byte
stuffed_byte : (d : Dinode) (bytes : List ℕ) (n : ℕ) → ((n < d.size) × (byte (stuffed_in d bytes) n ≡ byte bytes (dinode_length + n))) ⊎ ((d.size ≤ n) × (byte (stuffed_in d bytes) n ≡ 0))
stuffed_byte d bytes n = elim (cases_lt n d.size) [
  | inl low ↦ inl (low, get_or-take d.size (drop dinode_length bytes) n 0 low ∙ get_or-drop dinode_length bytes n 0)
  | inr past ↦ inr (past, get_or_past (stuffed_in d bytes) n 0 (omega (arith, past, length-take d.size (drop dinode_length bytes))))
]

stuffed_long : (d : Dinode) (bytes : List ℕ) → dinode_length + d.size ≤ length bytes → length (stuffed_in d bytes) ≡ d.size
stuffed_long d bytes fits = omega (arith, fits, length-take d.size (drop dinode_length bytes), length-drop dinode_length bytes)

-- content by the bytes behind the dinode
area_is : (content own area : List ℕ) → dinode_length + length content ≤ length area → drop dinode_length own ≡ drop dinode_length area
    → ((n : ℕ) → n < length content → byte area (dinode_length + n) ≡ byte content n) → take (length content) (drop dinode_length own) ≡ content
area_is content own area fits behind each =
    ap (take (length content)) behind
    ∙ same_bytes _ _ long (λ n low.
    let less : n < length content = omega (arith, low, long) in
    get_or-take (length content) (drop dinode_length area) n 0 less ∙ get_or-drop dinode_length area n 0 ∙ each n less)
  where
    long : length (take (length content) (drop dinode_length area)) ≡ length content
    long = omega (arith, fits, length-take (length content) (drop dinode_length area), length-drop dinode_length area)

-- zeros between the end and the place, and the bytes over them, are the content with these bytes over it
module _ (d : Dinode) (at until : ℕ) (new old : List ℕ) (fits : dinode_length + d.size ≤ length old) (room : dinode_length + at + length new ≤ length old) (until_is : until ≡ max (dinode_length + d.size) (dinode_length + at)) where
  over_long : length (overwritten at new (stuffed_in d old)) ≡ max d.size (at + length new)
  over_long = omega (arith, over_length at new (stuffed_in d old), stuffed_long d old fits)

  over_fits : dinode_length + length (overwritten at new (stuffed_in d old)) ≤ length old
  over_fits = omega (arith, over_long, fits, room)

  zeros_long : length (replicate {A = ℕ} (until - (dinode_length + d.size)) 0) ≡ until - (dinode_length + d.size)
  zeros_long = length-replicate (until - (dinode_length + d.size)) 0

  zeros_fit : dinode_length + d.size + length (replicate {A = ℕ} (until - (dinode_length + d.size)) 0) ≤ length old
  zeros_fit = omega (arith, zeros_long, until_is, fits, room)

  clear_long : length (put_at (dinode_length + d.size) (replicate (until - (dinode_length + d.size)) 0) old) ≡ length old
  clear_long = length-put (dinode_length + d.size) (replicate (until - (dinode_length + d.size)) 0) old zeros_fit

  new_fits : dinode_length + at + length new ≤ length (put_at (dinode_length + d.size) (replicate (until - (dinode_length + d.size)) 0) old)
  new_fits = omega (arith, clear_long, room)

  clear_byte : (n : ℕ) → ((n < dinode_length + d.size) × (byte (put_at (dinode_length + d.size) (replicate (until - (dinode_length + d.size)) 0) old) n ≡ byte old n))
      ⊎ ((dinode_length + d.size ≤ n) × (n < until) × (byte (put_at (dinode_length + d.size) (replicate (until - (dinode_length + d.size)) 0) old) n ≡ 0))
      ⊎ ((until ≤ n) × (byte (put_at (dinode_length + d.size) (replicate (until - (dinode_length + d.size)) 0) old) n ≡ byte old n))
  clear_byte n = elim (mid_byte (dinode_length + d.size) (replicate (until - (dinode_length + d.size)) 0) old n zeros_fit) [
    | inl before ↦ inl before
    | inr (inl here) ↦ inr (inl (here.0, omega (arith, here.1, zeros_long, until_is), here.2 ∙ zero_byte (until - (dinode_length + d.size)) (n - (dinode_length + d.size))))
    | inr (inr after) ↦ inr (inr (omega (arith, after.0, zeros_long, until_is), after.1))
  ]

  in_content : (n : ℕ) → dinode_length ≤ n → n < dinode_length + max d.size (at + length new)
      → byte (overwritten at new (stuffed_in d old)) (n - dinode_length) ≡ byte (put_at (dinode_length + at) new (put_at (dinode_length + d.size) (replicate (until - (dinode_length + d.size)) 0) old)) n
  in_content n low high =
      let back : dinode_length + (n - dinode_length) ≡ n = omega (arith, low) in
      elim (mid_byte (dinode_length + at) new (put_at (dinode_length + d.size) (replicate (until - (dinode_length + d.size)) 0) old) n new_fits) [
        | inl before ↦
            over_before at new (stuffed_in d old) (n - dinode_length) (omega (arith, before.0, low))
            ∙ elim (clear_byte n) [
              | inl was ↦ elim (stuffed_byte d old (n - dinode_length)) [
                | inl is ↦ is.1 ∙ ap (byte old) back ∙ sym was.1 ∙ sym before.1
                | inr is ↦ absurd (omega (arith, was.0, is.0, low))
              ]
              | inr (inl none) ↦ elim (stuffed_byte d old (n - dinode_length)) [
                | inl is ↦ absurd (omega (arith, none.0, is.0, low))
                | inr is ↦ is.1 ∙ sym none.2 ∙ sym before.1
              ]
              | inr (inr past) ↦ absurd (omega (arith, past.0, until_is, before.0))
            ]
        | inr (inl here) ↦
            let same : n - dinode_length - at ≡ n - (dinode_length + at) = omega arith in
            over_in at new (stuffed_in d old) (n - dinode_length) (omega (arith, here.0)) (omega (arith, here.1, low)) ∙ ap (byte new) same ∙ sym here.2
        | inr (inr after) ↦
            over_behind at new (stuffed_in d old) (n - dinode_length) (omega (arith, after.0))
            ∙ elim (clear_byte n) [
              | inl was ↦ elim (stuffed_byte d old (n - dinode_length)) [
                | inl is ↦ is.1 ∙ ap (byte old) back ∙ sym was.1 ∙ sym after.1
                | inr is ↦ absurd (omega (arith, was.0, is.0, low))
              ]
              | inr (inl none) ↦ absurd (omega (arith, none.0, high, after.0))
              | inr (inr past) ↦ absurd (omega (arith, past.0, until_is, high, after.0))
            ]
      ]

  outside : (n : ℕ) → (n < dinode_length) ⊎ (dinode_length + max d.size (at + length new) ≤ n)
      → byte old n ≡ byte (put_at (dinode_length + at) new (put_at (dinode_length + d.size) (replicate (until - (dinode_length + d.size)) 0) old)) n
  outside n out = elim (mid_byte (dinode_length + at) new (put_at (dinode_length + d.size) (replicate (until - (dinode_length + d.size)) 0) old) n new_fits) [
    | inl before ↦ clear n out ∙ sym before.1
    | inr (inl here) ↦ absurd (never here.0 here.1 out)
    | inr (inr after) ↦ clear n out ∙ sym after.1
  ]
    where
      clear : (n : ℕ) → (n < dinode_length) ⊎ (dinode_length + max d.size (at + length new) ≤ n) → byte old n ≡ byte (put_at (dinode_length + d.size) (replicate (until - (dinode_length + d.size)) 0) old) n
      clear n out = elim (clear_byte n) [
        | inl was ↦ sym was.1
        | inr (inl none) ↦ absurd (elim out [ inl low ↦ omega (arith, low, none.0) | inr high ↦ omega (arith, high, none.1, until_is) ])
        | inr (inr past) ↦ sym past.1
      ]

      never : dinode_length + at ≤ n → n < dinode_length + at + length new → (n < dinode_length) ⊎ (dinode_length + max d.size (at + length new) ≤ n) → ⊥
      never from to (inl low) = omega (arith, from, low)
      never from to (inr high) = omega (arith, to, high)

  pub put_over : put_at (dinode_length + at) new (put_at (dinode_length + d.size) (replicate (until - (dinode_length + d.size)) 0) old) ≡ put_at dinode_length (overwritten at new (stuffed_in d old)) old
  put_over = same_bytes _ _ (length-put (dinode_length + at) new (put_at (dinode_length + d.size) (replicate (until - (dinode_length + d.size)) 0) old) new_fits ∙ clear_long ∙ sym (length-put dinode_length (overwritten at new (stuffed_in d old)) old over_fits))
      (λ n low. elim (mid_byte dinode_length (overwritten at new (stuffed_in d old)) old n over_fits) [
        | inl before ↦ sym (before.1 ∙ outside n (inl before.0))
        | inr (inl here) ↦ sym (here.2 ∙ in_content n here.0 (omega (arith, here.1, over_long)))
        | inr (inr after) ↦ sym (after.1 ∙ outside n (inr (omega (arith, after.0, over_long))))
      ])

-- content that is put behind a dinode
module _ (d : Dinode) (at size : ℕ) (new old own : List ℕ) (fits : dinode_length + d.size ≤ length old) (room : dinode_length + at + length new ≤ length old) (size_is : size ≡ max d.size (at + length new))
    (behind : drop dinode_length own ≡ drop dinode_length (put_at dinode_length (overwritten at new (stuffed_in d old)) old)) where
  long : length (overwritten at new (stuffed_in d old)) ≡ size
  long = omega (arith, size_is, over_length at new (stuffed_in d old), stuffed_long d old fits)

  area : drop dinode_length own ≡ overwritten at new (stuffed_in d old) ++ drop (dinode_length + length (overwritten at new (stuffed_in d old))) old
  area = behind ∙ drop_at (take dinode_length old) _ dinode_length (omega (arith, fits, length-take dinode_length old))

  pub stuffed_block : dinode_read own ≡ Ok (record d { size = size }) → length own ≡ length old → IsStuffedBlock (length old) (record d { size = size }) (overwritten at new (stuffed_in d old)) own
  stuffed_block read whole = record {
    whole = whole;
    read = read;
    says = sym long;
    room = omega (arith, long, size_is, fits, room);
    area = ap (take (length (overwritten at new (stuffed_in d old)))) area ∙ take_at (overwritten at new (stuffed_in d old)) _ _ refl;
  }

  pub stuffed_behind : drop (dinode_length + size) own ≡ drop (dinode_length + size) old
  stuffed_behind =
      sym (drop-drop size dinode_length own) ∙ ap (drop size) area ∙ drop_at (overwritten at new (stuffed_in d old)) _ size long
      ∙ ap (λ n. drop (dinode_length + n) old) long

pub resized_block : (d : Dinode) (size clear : ℕ) (old own : List ℕ) → dinode_length + d.size ≤ length old → dinode_length + size ≤ length old → clear ≡ min d.size size
    → dinode_read own ≡ Ok (record d { size = size }) → length own ≡ length old → drop dinode_length own ≡ drop dinode_length (zeros_from (dinode_length + clear) old)
    → IsStuffedBlock (length old) (record d { size = size }) (resized size (stuffed_in d old)) own
resized_block d size clear old own fits room clear_is read whole behind = record {
  whole = whole;
  read = read;
  says = sym (resized_length size (stuffed_in d old));
  room = omega (arith, resized_length size (stuffed_in d old), room);
  area = area_is (resized size (stuffed_in d old)) own (zeros_from (dinode_length + clear) old) (omega (arith, resized_length size (stuffed_in d old), zeros_length (dinode_length + clear) old short, room)) behind each;
}
  where
    short : dinode_length + clear ≤ length old
    short = omega (arith, clear_is, fits, room)

    each : (n : ℕ) → n < length (resized size (stuffed_in d old)) → byte (zeros_from (dinode_length + clear) old) (dinode_length + n) ≡ byte (resized size (stuffed_in d old)) n
    each n low =
        let less : n < size = omega (arith, low, resized_length size (stuffed_in d old)) in
        elim (zeros_byte (dinode_length + clear) old (dinode_length + n) short) [
          | inl is ↦ elim (stuffed_byte d old n) [
            | inl was ↦ is.1 ∙ sym was.1 ∙ sym (resized_in size (stuffed_in d old) n less)
            | inr was ↦ absurd (omega (arith, is.0, was.0, clear_is))
          ]
          | inr is ↦ elim (stuffed_byte d old n) [
            | inl was ↦ absurd (omega (arith, is.0, was.0, clear_is, less))
            | inr was ↦ is.1 ∙ sym was.1 ∙ sym (resized_in size (stuffed_in d old) n less)
          ]
        ]

-- the same block in other words
pub block_along : (size size' : ℕ) (d : Dinode) (make : List ℕ → List ℕ) (a b own own' : List ℕ) → size ≡ size' → a ≡ b → own ≡ own' → IsStuffedBlock size d (make a) own → IsStuffedBlock size' d (make b) own'
block_along size size' d make a b own own' sizes was now is =
    subst (λ n. IsStuffedBlock n d (make b) own') sizes (subst (λ xs. IsStuffedBlock size d (make xs) own') was (subst (IsStuffedBlock size d (make a)) now is))

-- ---- steps

module _ (h : Holding) (d : Dinode) (own : List ℕ) (file : IsFile h) (read : dinode_read own ≡ Ok d) (whole : length own ≡ h.size) where
  kept : ((y : ℕ) → part_at (with_cells h (rewritten_cells h h.own own)) y ≡ part_at h y) × (bytes_at (with_cells h (rewritten_cells h h.own own)) h.own ≡ own)
      × ((y : ℕ) → y ≢ h.own → bytes_at (with_cells h (rewritten_cells h h.own own)) y ≡ bytes_at h y)
  kept = rewrites_keep_the_rest h h.own Itself own file.own

  says : (dinode_in (with_cells h (rewritten_cells h h.own own)) ≡ d) × HasHeader 4 400 (bytes_at (with_cells h (rewritten_cells h h.own own)) h.own)
  says = let all = written_dinodes_are_said h Itself own d file.own read in (all.0, all.1)

  pub bare_is : (height : ℕ) → CanBeBare h height → d ≡ record (dinode_in h) { height = height } → IsLedBlock h.size d 0 own → IsBareTo h (rewritten_cells h h.own own) height
  bare_is height can d_is led = record {
    bare = can.bare;
    low = can.low;
    enough = can.enough;
    from_stuffed = can.from_stuffed;
    to_stuffed = can.to_stuffed;
    dinode = says.0 ∙ d_is;
    own_header = says.1;
    own_whole = ap length kept.1 ∙ whole;
    none = λ j low. ap (u64_at (dinode_length + 8 * j)) kept.1 ∙ nowhere j;
    parts = kept.0;
    others = kept.2;
  }
    where
      nowhere : (j : ℕ) → u64_at (dinode_length + 8 * j) own ≡ 0
      nowhere j = elim (cases_eq j 0) [ inl none ↦ ap (λ n. u64_at (dinode_length + 8 * n) own) none ∙ led.first | inr later ↦ led.rest j later ]

  pub told_is : (blocks : ℕ) → d ≡ record (dinode_in h) { blocks = blocks } → drop dinode_length own ≡ drop dinode_length (bytes_at h h.own) → IsTold h (rewritten_cells h h.own own) blocks
  told_is blocks d_is behind = record {
    dinode = says.0 ∙ d_is;
    own_header = says.1;
    own_whole = ap length kept.1 ∙ whole;
    behind = ap (drop dinode_length) kept.1 ∙ behind;
    parts = kept.0;
    others = kept.2;
  }

  pub sized_is : (size : ℕ) → CanHaveSize h size → d ≡ record (dinode_in h) { size = size } → drop dinode_length own ≡ drop dinode_length (bytes_at h h.own) → IsSized h (rewritten_cells h h.own own) size
  sized_is size can d_is behind = record {
    in_blocks = can.in_blocks;
    reached = can.reached;
    no_block = can.no_block;
    clear = can.clear;
    dinode = says.0 ∙ d_is;
    own_header = says.1;
    own_whole = ap length kept.1 ∙ whole;
    pointers = (written_dinodes_are_said h Itself own d file.own read).2 behind;
    parts = kept.0;
    others = kept.2;
  }

  pub stuffed_is : (size : ℕ) (content : List ℕ) → height_in h ≡ 0 → d ≡ record (dinode_in h) { size = size } → IsStuffedBlock h.size d content own → IsStuffedAs h (rewritten_cells h h.own own) content
  stuffed_is size content stuffed d_is is = record {
    stuffed = stuffed;
    room = is.room;
    dinode = says.0 ∙ d_is ∙ ap (λ n. record (dinode_in h) { size = n }) (sym (ap (λ (x : Dinode). x.size) d_is) ∙ is.says);
    area = ap (λ xs. take (length content) (drop dinode_length xs)) kept.1 ∙ is.area;
    own_header = says.1;
    own_whole = ap length kept.1 ∙ whole;
    parts = kept.0;
    others = kept.2;
  }

-- ---- as the code does it

module _ {V : Type 0} (seen : V → Seen) (old now : Drafted V) (inode : ℕ) (d : Dinode) (bytes own : List ℕ) (there : (seen_in seen old).block_at inode ≡ Some bytes)
    (put : now ≡ record old { fates = insert old.fates inode (Put (inode_lock inode) false own) }) (h : Holding) (file : IsFile h) (shown : IsShown (seen_in seen old) inode h) (d_is : d ≡ dinode_in h) where
  -- the dinode's block is put
  becomes : IsFile (with_cells h (rewritten_cells h h.own own)) → Becomes (seen_in seen now) old.fates now.fates inode h (with_cells h (rewritten_cells h h.own own))
  becomes file' =
      subst (λ x. Becomes (seen_in seen now) old.fates now.fates inode h (with_cells h (rewritten_cells h x own))) (sym shown.own)
      (becomes_rewritten seen old now inode inode Itself false own h shown (ap (part_at h) (sym shown.own) ∙ file.own) put
      (subst (λ x. IsFile (with_cells h (rewritten_cells h x own))) shown.own file') (subst (λ x. (false ≡ true) ↔ IsContentIn h x) shown.own (own_is_no_content h file)))

  pub bare_by : (height : ℕ) → IsLedBlock (seen old.view).size (record d { height = height }) 0 own → CanBeBare h height
      → IsBareTo h (rewritten_cells h h.own own) height × Becomes (seen_in seen now) old.fates now.fates inode h (with_cells h (rewritten_cells h h.own own))
  bare_by height led can =
      let led' = subst (λ n. IsLedBlock n (record d { height = height }) 0 own) (sym shown.size) led in
      let step = bare_is h (record d { height = height }) own file led'.read led'.whole height can (ap (λ (x : Dinode). record x { height = height }) d_is) led' in
      (step, becomes (bare_files_change_height h (rewritten_cells h h.own own) height file step).0)

  pub told_by : (blocks : ℕ) → dinode_read own ≡ Ok (record d { blocks = blocks }) → length own ≡ (seen old.view).size → drop dinode_length own ≡ drop dinode_length bytes
      → IsTold h (rewritten_cells h h.own own) blocks × Becomes (seen_in seen now) old.fates now.fates inode h (with_cells h (rewritten_cells h h.own own))
  told_by blocks read whole behind =
      let step = told_is h (record d { blocks = blocks }) own file read (whole ∙ sym shown.size) blocks (ap (λ (x : Dinode). record x { blocks = blocks }) d_is)
      (behind ∙ ap (drop dinode_length) (sym (own_seen (seen_in seen old) inode bytes h shown there))) in
      (step, becomes (counts_are_told h (rewritten_cells h h.own own) blocks file step).0)

  pub sized_by : (size : ℕ) → CanHaveSize h size → dinode_read own ≡ Ok (record d { size = size }) → length own ≡ (seen old.view).size → drop dinode_length own ≡ drop dinode_length bytes
      → IsSized h (rewritten_cells h h.own own) size × Becomes (seen_in seen now) old.fates now.fates inode h (with_cells h (rewritten_cells h h.own own))
  sized_by size can read whole behind =
      let step = sized_is h (record d { size = size }) own file read (whole ∙ sym shown.size) size can (ap (λ (x : Dinode). record x { size = size }) d_is)
      (behind ∙ ap (drop dinode_length) (sym (own_seen (seen_in seen old) inode bytes h shown there))) in
      (step, becomes (sizes_resize h (rewritten_cells h h.own own) size file step).0)

  -- what stands behind the dinode is the file's content
  content_is : height_in h ≡ 0 → stuffed_in d bytes ≡ content_of h
  content_is stuffed = (λ t. stuffed_in (d_is t) (sym (own_seen (seen_in seen old) inode bytes h shown there) t)) ∙ sym (content_stuffed h stuffed)

  pub stuffed_by : (size : ℕ) (make : List ℕ → List ℕ) → height_in h ≡ 0 → IsStuffedBlock (seen old.view).size (record d { size = size }) (make (stuffed_in d bytes)) own
      → IsStuffedAs h (rewritten_cells h h.own own) (make (content_of h)) × Becomes (seen_in seen now) old.fates now.fates inode h (with_cells h (rewritten_cells h h.own own))
  stuffed_by size make stuffed block =
      let block' = subst (λ n. IsStuffedBlock n (record d { size = size }) (make (content_of h)) own) (sym shown.size)
      (subst (λ xs. IsStuffedBlock (seen old.view).size (record d { size = size }) (make xs) own) (content_is stuffed) block) in
      let step = stuffed_is h (record d { size = size }) own file block'.read block'.whole size (make (content_of h)) stuffed (ap (λ (x : Dinode). record x { size = size }) d_is) block' in
      (step, becomes (stuffed_content_is_put h (rewritten_cells h h.own own) (make (content_of h)) file step).0)

-- of two answers that are there
pub on_both : {E : Type 0} (r : Result Unit E) (P Q R : Type 0) → (P → Q → R) → OnOk r P → OnOk r Q → OnOk r R
on_both (Ok u) P Q R to p q = to p q
on_both (Err e) P Q R to p q = tt
