-- A block that is needed lies out of the device: its number stands in a block that is wrong.
use Rattle.std.proofs.Common.{◌≡◌, ◌≢◌, ℕ, suc, ◌+◌, ◌*◌, ◌≤◌, ◌⊎◌, inl, inr, List, [], ◌∷◌, length, replicate, Option, None, Some, refl, sym, ap, ◌∙◌, subst, arith}
use Rattle.std.proofs.lemmas.Bool.{cases_Bool, cases_eq, cases_lt, cond-true, cond-false, eq-eqb, ne_eqb, true≢false}
use Rattle.std.proofs.lemmas.List.{get_or-drop, get_or-take, get_or_past, length-replicate, length-take}
use Rattle.std.specs.Int.{from_be_bytes, w32}
use Rattle.growth_laws.proofs.Bytes.{byte, zero_byte}
use Rattle.directories.proofs.Forms.{linear_here}
use Rattle.std.specs.Prelude.{false, ◌==◌, ◌&&◌, ◌/◌, ◌%◌, take, drop, get_or, if◌then◌else◌}
use Rattle.call_locks.specs.declared.want.Want.{Want}
use Rattle.call_locks.specs.Wants.{wanted}
use Rattle.call_locks.specs.WantLaws.{path_of}
use Rattle.dinode_tree.specs.Below.{AnyIndex}
use Rattle.dinode_tree.specs.Reading.{IsNeeded, IsOnWay, the_dinode, led_to}
use Rattle.dinode_tree.specs.Shown.{IsShown}
use Rattle.dinode_tree.specs.Walking.{missing_dinode}
use Rattle.directories.specs.Shown as dirs
use Rattle.file_tree.specs.declared.call.Call.{Call}
use Rattle.gfs2_layout.specs.Bytes.{number_at, u32_at, u64_at}
use Rattle.gfs2_layout.specs.Device.{superblock_place}
use Rattle.gfs2_layout.specs.Holding.{Holding}
use Rattle.gfs2_layout.specs.Inode.{Leads, from_dinode, from_block, has_hash_flag, header_length, dinode_in, is_hashed_in, span}
use Rattle.gfs2_layout.specs.Structures.{dinode_length, dinode_of, is_directory as says_directory}
use Rattle.glock_names.specs.Views.{Seen, HasBlock}
use Rattle.glock_names.specs.declared.steps.Missing.{Missing}
use Rattle.growth_laws.proofs.Numbers.{zeros_are_no_number}
use Rattle.hash_dirs.specs.Shown as hashed
use Rattle.file_calls.specs.HashInserting as inserts
use Rattle.file_calls.specs.NameInserting as names
use Rattle.image_model.specs.Claims.{every, below, HasInode, HasDirectory}
use Rattle.image_model.specs.Flat.{Path}
use Rattle.image_model.specs.Image.{Image, IsImage}
use Rattle.image_model.specs.Owners.{Root, Below}
use Rattle.image_model.specs.Rules.{Breaks, beyond_device}
use Rattle.image_model.proofs.Held.{none_some}
use Rattle.file_calls.specs.Making as making
use Rattle.file_calls.specs.Walks.{IsDirectoryAt, LeadsTo, IsNext, the_root, the_child, IsUnread, a_dinode, in_directory}
use Rattle.file_calls.specs.Removing as removing
use Rattle.file_calls.specs.Writing as writing
use Rattle.file_calls.specs.FileDrafting.{IsNeededAt, of_any, of_group, of_inode}
use Rattle.growth_drafts.specs.Taken.{IsCutAt, IsLookedAt}
use Rattle.damage_laws.specs.Telling.{IsReadFrom, HasWholeGroups, HasAstray, IsAstray, IsBrokenSource, source_of}
use Rattle.damage_laws.proofs.Astray.{led_beyond, whole_or_out}
use Rattle.damage_laws.proofs.Claimed.{shown, root_claimed, is_directory, directory_or, led_there, astray_at, further}
use Rattle.damage_laws.proofs.Inodes.{led_inside}
use Rattle.damage_laws.proofs.Owned.{from_parent}

-- the view has the block, or hasn't
has_or : (v : Seen) (b : ℕ) → HasBlock v b ⊎ (v.block_at b ≡ None)
has_or v b = by_look (v.block_at b) refl
  where
    by_look : (found : Option (List ℕ)) → v.block_at b ≡ found → HasBlock v b ⊎ (v.block_at b ≡ None)
    by_look (Some bytes) e = inl (bytes, e)
    by_look None e = inr e

-- the image with zeros in a block
abbrev zeroed : Image → ℕ → Image
zeroed im x = record { size = im.size; count = im.count; at = λ b. if b == x then replicate im.size 0 else im.at b }

zeros_at : (im : Image) (x b : ℕ) → b ≡ x → (zeroed im x).at b ≡ replicate im.size 0
zeros_at im x b e = cond-true _ _ _ (eq-eqb b x e)

same_at : (im : Image) (x b : ℕ) → b ≢ x → (zeroed im x).at b ≡ im.at b
same_at im x b other = cond-false _ _ _ (ne_eqb b x other)

zeroed_is : (im : Image) (x : ℕ) → IsImage im → IsImage (zeroed im x)
zeroed_is im x is = record {
  block_size = is.block_size;
  whole = λ b low. elim (cases_eq b x) [
    | inl e ↦ ap length (zeros_at im x b e) ∙ length-replicate im.size 0
    | inr other ↦ ap length (same_at im x b other) ∙ is.whole b low
  ];
}

-- no number stands there
no_number : (im : Image) (x b at : ℕ) → b ≡ x → u64_at at ((zeroed im x).at b) ≡ 0
no_number im x b at e = ap (λ n. u64_at n ((zeroed im x).at b)) (let s : at ≡ 0 + at = omega arith in s) ∙ zeros_are_no_number ((zeroed im x).at b) 0 at im.size (zeros_at im x b e)

-- so no pointer does
none_led : (im : Image) (a x from k level first b : ℕ) → from ≡ x → Leads (every (zeroed im x) a) from k level first b → ⊥
none_led im a x from k level first b e (from_dinode j up height low some) = some (no_number im x a (dinode_length + 8 * j) e)
none_led im a x from k level first b e (from_block y j up start c i leads low some) = some (no_number im x c (header_length + 8 * i) e)

-- and what still leads somewhere did before
still_led : (im : Image) (a x from k level first b : ℕ) → Leads (every (zeroed im x) a) from k level first b → Leads (every im a) from k level first b
unfolding dinode_in
still_led im a x _ _ _ _ _ (from_dinode j level high low some) = elim (cases_eq a x) [
  | inl e ↦ absurd (some (no_number im x a (dinode_length + 8 * j) e))
  | inr other ↦
      let same : (zeroed im x).at a ≡ im.at a = same_at im x a other in
      let p : u64_at (dinode_length + 8 * j) ((zeroed im x).at a) ≡ u64_at (dinode_length + 8 * j) (im.at a) = ap (u64_at (dinode_length + 8 * j)) same in
      let before : Leads (every im a) a j level (j * span im.size level) (u64_at (dinode_length + 8 * j) (im.at a)) = from_dinode j level (ap (λ (bytes : List ℕ). (dinode_of bytes).height) (sym same) ∙ high) low (λ e. some (p ∙ e)) in
      subst (Leads (every im a) a j level (j * span im.size level)) (sym p) before
]
still_led im a x _ _ _ _ _ (from_block y j level start c i leads low some) = elim (cases_eq c x) [
  | inl e ↦ absurd (some (no_number im x c (header_length + 8 * i) e))
  | inr other ↦
      let same : (zeroed im x).at c ≡ im.at c = same_at im x c other in
      let p : u64_at (header_length + 8 * i) ((zeroed im x).at c) ≡ u64_at (header_length + 8 * i) (im.at c) = ap (u64_at (header_length + 8 * i)) same in
      let before : Leads (every im a) c i level (start + i * span im.size level) (u64_at (header_length + 8 * i) (im.at c)) = from_block y j level start c i (still_led im a x y j (suc level) start c leads) low (λ e. some (p ∙ e)) in
      subst (Leads (every im a) c i level (start + i * span im.size level)) (sym p) before
]

-- a dinode of zeros isn't that of a hashed directory, nor is one that stays that of a linear one
zero32 : (xs : List ℕ) → ((i : ℕ) → get_or xs i 0 ≡ 0) → from_be_bytes w32 xs ≡ 0
zero32 xs none = rw (none 0, none 1, none 2, none 3) refl

zeros32 : (i n : ℕ) → u32_at i (replicate n 0) ≡ 0
unfolding number_at
zeros32 i n = zero32 (take 4 (drop i (replicate n 0))) each
  where
    each : (m : ℕ) → byte (take 4 (drop i (replicate n 0))) m ≡ 0
    each m = elim (cases_lt m 4) [
      | inl low ↦ get_or-take 4 (drop i (replicate n 0)) m 0 low ∙ get_or-drop i (replicate n 0) m 0 ∙ zero_byte n (i + m)
      | inr far ↦ get_or_past (take 4 (drop i (replicate n 0))) m 0 (omega (arith, far, length-take 4 (drop i (replicate {A = ℕ} n 0))))
    ]

no_flag : (n : ℕ) → n ≡ 0 → (n / 2 % 2 == 1) ≡ false
no_flag n e = ap (λ m. m / 2 % 2 == 1) e

linear_zeroed : (im : Image) (a x : ℕ) → is_hashed_in (every im a) ≡ false → is_hashed_in (every (zeroed im x) a) ≡ false
unfolding dinode_in
linear_zeroed im a x linear = elim (cases_eq a x) [
  | inl e ↦
      let d : dinode_of (replicate im.size 0) ≡ dinode_of ((zeroed im x).at a) = ap dinode_of (sym (zeros_at im x a e)) in
      linear_here (every (zeroed im x) a) (dinode_of (replicate im.size 0)) d (no_flag (u32_at 128 (replicate im.size 0)) (zeros32 128 im.size))
  | inr other ↦ ap (λ bytes. says_directory (dinode_of bytes) && has_hash_flag (dinode_of bytes)) (same_at im x a other) ∙ linear
]

-- what is needed is the dinode, or a pointer leads to it
abbrev IsWay : Holding → Missing → Type 0
IsWay h m = ((m.block ≡ h.own) × (m.from ≡ h.own)) ⊎ ((k level first : ℕ) × Leads h m.from k level first m.block)

way_of : (h : Holding) (W : ℕ → Type 0) (least : ℕ) (m : Missing) → IsOnWay h W least m → IsWay h m
way_of h W least m (the_dinode is from plain) = inl (is, from)
way_of h W least m (led_to i k level first wants_it high led low near plain) = inr (k, level, first, led)

module _ (v : Seen) (im : Image) (read : IsReadFrom v im) (whole : HasWholeGroups v im) where
  -- a view shows an inode as well with zeros in a block that it hasn't
  shown_zeroed : (a x : ℕ) → v.block_at x ≡ None → IsShown v a (every (zeroed im x) a)
  shown_zeroed a x absent = record { own = refl; size = read.size; dinode = refl; led_to = λ b k level first c leads. refl; same = λ b bytes some e. same b bytes e }
    where
      same : (b : ℕ) (bytes : List ℕ) → v.block_at b ≡ Some bytes → (zeroed im x).at b ≡ bytes
      same b bytes e = elim (cases_eq b x) [
        | inl is ↦ absurd (none_some (sym absent ∙ sym (ap v.block_at is) ∙ e))
        | inr other ↦ same_at im x b other ∙ read.agrees b bytes e
      ]

  -- so it does a directory, or one of its blocks is beyond the device
  directory_zeroed : (a x : ℕ) → v.block_at x ≡ None → HasDirectory im a → dirs.IsShown v a (every (zeroed im x) a) ⊎ ((y : ℕ) × IsAstray im a y)
  directory_zeroed a x absent has = elim (cases_Bool (is_hashed_in (every im a))) [
    | inr linear ↦ inl (record { inode = shown_zeroed a x absent; leaves = λ is i place y chain some. refl; whole = λ is. absurd (true≢false (sym is ∙ linear_zeroed im a x linear)) })
    | inl hashed ↦ elim (whole_or_out (zeroed im x) (zeroed_is im x whole.image) a) [
      | inl all ↦ inl (record { inode = shown_zeroed a x absent; leaves = λ is i place y chain some. refl; whole = λ is. all })
      | inr out ↦ inr (out.0, led_beyond im whole.image a has hashed out.0 out.1 out.2 out.3 out.4 (still_led im a x out.0 out.1 out.2 out.3 out.4 out.5) out.6)
    ]
  ]

  at_superblock : (m : Missing) → m.from ≡ m.block → Breaks im 2 (superblock_place im.size) → IsBrokenSource v im (source_of im.size m)
  at_superblock m e broken = subst (IsBrokenSource v im) (sym (cond-true _ _ _ (eq-eqb m.from m.block e))) (record { breaks = broken; there = inl refl })

  in_block : (m : Missing) → m.from ≢ m.block → HasBlock v m.from → Breaks im 2 m.from → IsBrokenSource v im (source_of im.size m)
  in_block m other there broken = subst (IsBrokenSource v im) (sym (cond-false _ _ _ (ne_eqb m.from m.block other))) (record { breaks = broken; there = inr there })

  -- the one inode out of the device to which a path can lead is the root
  root_out : im.count ≤ v.root → Breaks im 2 (superblock_place im.size)
  root_out out = beyond_device (superblock_place im.size) v.root Root (root_claimed v im read whole.image) out

  led_out : (wants : List Want) (path : Path) (a : ℕ) → LeadsTo v wants path a → im.count ≤ a → Breaks im 2 (superblock_place im.size)
  led_out wants path a leads out = elim (led_inside v wants path a leads) [
    | inl e ↦ root_out (subst (λ b. im.count ≤ b) e out)
    | inr inside ↦ absurd (omega (arith, out, whole.data_blocks a inside))
  ]

  next_out : (wants : List Want) (path : Path) (depth a : ℕ) → IsNext v wants path depth a → im.count ≤ a → Breaks im 2 (superblock_place im.size)
  next_out wants path depth a the_root out = root_out out
  next_out wants path depth a (the_child front back dir b name on leads is names inside) out = absurd (omega (arith, out, whole.data_blocks b inside))

  module _ (wants : List Want) (path : Path) where
    abbrev Source : Missing → Type 0
    Source m = IsBrokenSource v im (source_of im.size m) ⊎ HasAstray v im wants path

    -- The block in which the number stands is one that the view has: whatever stands in one that it hasn't, nothing is needed for it.
    source_out : (a : ℕ) (m : Missing) → HasInode im a → LeadsTo v wants path a → v.block_at m.block ≡ None → IsWay (every im a) m
        → ((x : ℕ) → v.block_at x ≡ None → IsWay (every (zeroed im x) a) m ⊎ HasAstray v im wants path) → im.count ≤ m.block → Source m
    source_out a m has leads absent way zeros out = elim (cases_eq m.from m.block) [
      | inl e ↦ elim (zeros m.block absent) [ inr ahead ↦ inr ahead | inl bare ↦ inl (at_superblock m e (itself e bare)) ]
      | inr other ↦ elim (has_or v m.from) [
        | inl there ↦ inl (in_block m other there (below_it other way))
        | inr none ↦ elim (zeros m.from none) [ inr ahead ↦ inr ahead | inl bare ↦ absurd (none_from other bare) ]
      ]
    ]
      where
        itself : m.from ≡ m.block → IsWay (every (zeroed im m.block) a) m → Breaks im 2 (superblock_place im.size)
        itself e (inl own) = led_out wants path a leads (subst (λ b. im.count ≤ b) own.0 out)
        itself e (inr led) = absurd (none_led im a m.block m.from led.0 led.1 led.2 m.block e led.3)

        none_from : m.from ≢ m.block → IsWay (every (zeroed im m.from) a) m → ⊥
        none_from other (inl own) = other (own.1 ∙ sym own.0)
        none_from other (inr led) = none_led im a m.from m.from led.0 led.1 led.2 m.block refl led.3

        below_it : m.from ≢ m.block → IsWay (every im a) m → Breaks im 2 m.from
        below_it other (inl own) = absurd (other (own.1 ∙ sym own.0))
        below_it other (inr led) =
            beyond_device m.from m.block (Below a m.from led.0 led.1 led.2) (below has.1.by a has.0 m.from led.0 led.1 led.2 m.block has.1.claimed has.1.dinode led.3) out

    -- a block of an inode to which a path leads
    pub needed_out : (a : ℕ) (m : Missing) → LeadsTo v wants path a → (W : Holding → ℕ → Type 0) (least : ℕ)
        → ((h : Holding) → IsShown v a h → IsNeeded v h (W h) least m) → im.count ≤ m.block → Source m
    needed_out a m leads W least needs out = elim (led_there v im read whole.image wants path a leads) [
      | inr ahead ↦ inr ahead
      | inl has ↦ source_out a m has leads (needs (every im a) (shown v im read whole.image a)).absent
          (way_of (every im a) (W (every im a)) least m (needs (every im a) (shown v im read whole.image a)).way)
          (λ x none. inl (way_of (every (zeroed im x) a) (W (every (zeroed im x) a)) least m (needs (every (zeroed im x) a) (shown_zeroed a x none)).way)) out
    ]

    -- the same of a directory
    pub directory_out : (a : ℕ) (m : Missing) → LeadsTo v wants path a → IsDirectoryAt v a → v.block_at m.block ≡ None → ((h : Holding) → dirs.IsShown v a h → IsWay h m) → im.count ≤ m.block → Source m
    directory_out a m leads directory absent ways out = elim (led_there v im read whole.image wants path a leads) [
      | inr ahead ↦ inr ahead
      | inl has ↦ elim (directory_or v im read whole.image a (is_directory v im read whole.image a has directory)) [
        | inr far ↦ inr (astray_at v im read whole.image wants path a leads far)
        | inl seen ↦ source_out a m has leads absent (ways (every im a) seen) (λ x none. zero_or x (directory_zeroed a x none (is_directory v im read whole.image a has directory))) out
      ]
    ]
      where
        zero_or : (x : ℕ) → dirs.IsShown v a (every (zeroed im x) a) ⊎ ((y : ℕ) × IsAstray im a y) → IsWay (every (zeroed im x) a) m ⊎ HasAstray v im wants path
        zero_or x (inl seen) = inl (ways (every (zeroed im x) a) seen)
        zero_or x (inr far) = inr (astray_at v im read whole.image wants path a leads far)

  -- a leaf that is needed is in a group, and so on the device
  hashed_way : (h : Holding) (W : ℕ → Type 0) (m : Missing) → im.count ≤ m.block → hashed.IsNeededFor v h W m → IsWay h m
  hashed_way h W m out (hashed.IsNeededFor.of_table i wanted needs) = way_of h _ 0 m needs.way
  hashed_way h W m out (hashed.IsNeededFor.a_leaf i wanted leads inside lock plain absent) = absurd (omega (arith, out, whole.data_blocks m.block inside))

  own_way : (h : Holding) (m : Missing) → m ≡ missing_dinode h.own → IsWay h m
  own_way h m is = inl (ap (λ (x : Missing). x.block) is, ap (λ (x : Missing). x.from) is)

  pub name_way : (h : Holding) (name : List ℕ) (m : Missing) → im.count ≤ m.block → dirs.IsNeededFor v h name m → IsWay h m
  name_way h name m out (dirs.IsNeededFor.the_dinode is absent) = own_way h m is
  name_way h name m out (dirs.IsNeededFor.in_hashed is needs) = hashed_way h _ m out needs

  pub all_way : (h : Holding) (m : Missing) → im.count ≤ m.block → dirs.IsNeededForAll v h m → IsWay h m
  all_way h m out (dirs.IsNeededForAll.the_dinode is absent) = own_way h m is
  all_way h m out (dirs.IsNeededForAll.in_hashed is needs) = hashed_way h _ m out needs

  pub unread_out : (wants : List Want) (path : Path) (m : Missing) → IsUnread v wants path m → im.count ≤ m.block → Source wants path m
  unread_out wants path m (a_dinode depth next held absent is) out = inl (at_superblock m (ap (λ (x : Missing). x.from) is) (next_out wants path depth m.block next out))
  unread_out wants path m (in_directory front back dir name on leads there directory needs absent) out =
      elim (directory_out wants front dir m leads directory absent (λ h seen. name_way h name m out (needs h seen)) out) [
        | inl source ↦ inl source
        | inr ahead ↦ inr (further v im read whole.image wants front (name ∷ back) path on ahead)
      ]

  pub removal_out : (call : Call) (m : Missing) → removing.IsNeededFor v call m → im.count ≤ m.block → Source (wanted call) (path_of call false) m
  removal_out call m (removing.on_path unread) out = unread_out (wanted call) (path_of call false) m unread out
  removal_out call m (removing.of_inode a taken (removing.IsNeededOf.in_tree needs)) out = needed_out (wanted call) (path_of call false) a m taken.leads (λ h. AnyIndex) 1 needs out
  removal_out call m (removing.of_inode a taken (removing.IsNeededOf.in_leaves directory needs absent)) out =
      directory_out (wanted call) (path_of call false) a m taken.leads directory absent (λ h seen. all_way h m out (needs h seen)) out
  removal_out call m (removing.of_group a blocks taken all held needs) out =
      absurd (omega (arith, out, whole.headers needs.0 m.block needs.1 needs.2.3.block.own))

  pub insert_way : (h : Holding) (name : List ℕ) (m : Missing) → im.count ≤ m.block → names.IsNeededForName v h name m → IsWay h m
  insert_way h name m out (names.IsNeededForName.the_dinode is absent) = own_way h m is
  insert_way h name m out (names.IsNeededForName.in_hashed is (inserts.IsNeededToInsert.of_chain needs)) = hashed_way h _ m out needs
  insert_way h name m out (names.IsNeededForName.in_hashed is (inserts.IsNeededToInsert.of_table full one needs)) = way_of h _ 0 m needs.way

  -- what is out of the device on the directory's path is so on the call's
  above_out : (call : Call) (m : Missing) → Source (wanted call) (making.directory_path call) m → Source (wanted call) (path_of call false) m
  above_out call m (inl source) = inl source
  above_out call m (inr ahead) = let f = from_parent (path_of call false) in inr (further v im read whole.image (wanted call) (making.directory_path call) f.0 (path_of call false) f.1 ahead)

  pub making_out : (call : Call) (m : Missing) → making.IsNeededFor v call m → im.count ≤ m.block → Source (wanted call) (path_of call false) m
  making_out call m (making.on_path unread) out = above_out call m (unread_out (wanted call) (making.directory_path call) m unread out)
  making_out call m (making.to_look a named leads there directory absent needs) out =
      above_out call m (directory_out (wanted call) (making.directory_path call) a m leads directory absent (λ h seen. name_way h (making.name_in call) m out (needs h seen)) out)
  making_out call m (making.to_insert gets absent needs) out =
      above_out call m (directory_out (wanted call) (making.directory_path call) gets.directory m gets.leads gets.lacks.directory absent (λ h seen. insert_way h (making.name_in call) m out (needs h seen)) out)
  making_out call m (making.of_group gets needed) out = absurd (omega (arith, out, whole.headers needed.group m.block needed.has needed.missing.own))

  file_out : (wants : List Want) (path : Path) (a : ℕ) (W : Holding → ℕ → Type 0) (blocks : List ℕ) (m : Missing) → LeadsTo v wants path a → IsNeededAt v a W blocks m → im.count ≤ m.block → Source wants path m
  file_out wants path a W blocks m leads (of_inode needs) out = needed_out wants path a m leads W 0 needs out
  file_out wants path a W blocks m leads (of_any needs) out = needed_out wants path a m leads (λ h. AnyIndex) 1 needs out
  file_out wants path a W blocks m leads (of_group needs) out = absurd (omega (arith, out, whole.headers needs.0 m.block needs.1 needs.2.3.block.own))

  pub writing_out : (call : Call) (m : Missing) → writing.IsNeededFor v call m → im.count ≤ m.block → Source (wanted call) (path_of call false) m
  writing_out call m (writing.on_path unread) out = unread_out (wanted call) (path_of call false) m unread out
  writing_out call m (writing.of_write a at new changes puts needs) out = file_out (wanted call) (path_of call false) a (λ h. IsLookedAt h at (at + length new)) [] m changes.at.leads needs out
  writing_out call m (writing.of_taken node a at new need room changes puts has is_room needs) out =
      file_out (wanted call) (path_of call false) a (λ h. IsLookedAt h at (at + length new)) room m changes.at.leads needs out
  writing_out call m (writing.of_cut a size changes cuts needs) out = file_out (wanted call) (path_of call false) a (λ h. IsCutAt h size) [] m changes.at.leads needs out
  writing_out call m (writing.of_freed a size time freed fates changes cuts draft held needs) out = file_out (wanted call) (path_of call false) a (λ h i. ⊥) freed m changes.at.leads needs out
  writing_out call m (writing.of_room a at new need changes puts has needed) out = absurd (omega (arith, out, whole.headers needed.group m.block needed.has needed.missing.own))
