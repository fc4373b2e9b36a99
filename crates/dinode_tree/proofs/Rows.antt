-- What is added to the blocks that were found below a dinode, and the rows that are had then.
use Rattle.std.proofs.Common.{◌≡◌, ◌≢◌, ◌⊎◌, ℕ, suc, ◌+◌, ◌-◌, ◌*◌, ◌<◌, ◌≤◌, inl, inr, List, [], length, get_or, Some, None, refl, sym, ap, subst, ◌∙◌, zero-add, arith}
use Rattle.std.specs.Prelude.{◌==◌, ◌&&◌, Contains}
use Rattle.std.proofs.lemmas.Bool.{cases_lt}
use Rattle.std.proofs.lemmas.List.{get_or_default}
use Rattle.gfs2_layout.specs.Bytes.{u64_at}
use Rattle.gfs2_layout.specs.Headers.{HasHeader}
use Rattle.gfs2_layout.specs.Holding.{Holding, bytes_at}
use Rattle.gfs2_layout.specs.Inode.{Leads, from_dinode, from_block, height_in, header_length, fan, span, pointer, content_count}
use Rattle.gfs2_layout.specs.Structures.{dinode_length, is_regular}
use Rattle.glock_names.specs.Steps.{IsDamage}
use Rattle.glock_names.specs.Views.{Seen, IsView, HasBlock}
use Rattle.glock_names.specs.declared.steps.CallFault.{CallFault}
use Rattle.glock_names.specs.declared.steps.CallFault.TheVariants.{Damaged}
use Rattle.glock_names.specs.declared.steps.Missing.{Missing}
use Rattle.dinode_tree.specs.Below.{IsBelow, IsLedFrom, TellsOfBlock, AnyIndex, IsLed, IsPointing, way_below, pointed_by, IsUnder, IsUnderRow, AreAdded, HasRows}
use Rattle.dinode_tree.specs.Broken.{IsBroken, no_header, of_indirect, past_end}
use Rattle.dinode_tree.specs.Reading.{inode_lock, IsNeeded, led_to}
use Rattle.dinode_tree.specs.Shown.{IsShown}
use Rattle.dinode_tree.specs.Walking.{held, IsIn, IsOf}
use Rattle.dinode_tree.specs.declared.below.Below.{Below}
use Rattle.dinode_tree.specs.declared.below.PointedBlock.{PointedBlock}
use Rattle.dinode_tree.specs.declared.inode.Inode.{Inode}
use Rattle.dinode_tree.specs.declared.ways.Link.{Link}
use Rattle.dinode_tree.specs.declared.ways.Way.{Way}
use Rattle.dinode_tree.proofs.Dinodes.{told, told_own, dinode_is, count_same}
use Rattle.dinode_tree.proofs.Pointers.{shown_of}
use Rattle.dinode_tree.proofs.Spans.{span_some}

-- ---- what is added

pub added_none : (x : Below) (P : Link → Type 0) → ((l : Link) → P l → ⊥) → AreAdded x x P
added_none x P none = record {
  blocks_stay = λ b has. has;
  blocks_come = λ l p. absurd (none l p);
  blocks_only = λ b has. inl has;
  row_stays = λ l has. has;
  row_comes = λ l p above. absurd (none l p);
  row_only = λ l has. inl has;
}

pub added_both : (x y z : Below) (P Q R : Link → Type 0) → AreAdded x y P → AreAdded y z Q → ((l : Link) → P l → R l) → ((l : Link) → Q l → R l) → ((l : Link) → R l → P l ⊎ Q l) → AreAdded x z R
added_both x y z P Q R first second left right split = record {
  blocks_stay = λ b has. second.blocks_stay b (first.blocks_stay b has);
  blocks_come = λ l r. elim (split l r) [
    | inl p ↦ second.blocks_stay (pointed_by l) (first.blocks_come l p)
    | inr q ↦ second.blocks_come l q
  ];
  blocks_only = λ b has. elim (second.blocks_only b has) [
    | inl before ↦ elim (first.blocks_only b before) [
      | inl older ↦ inl older
      | inr made ↦ inr (made.0, left made.0 made.1, made.2)
    ]
    | inr made ↦ inr (made.0, right made.0 made.1, made.2)
  ];
  row_stays = λ l has. second.row_stays l (first.row_stays l has);
  row_comes = λ l r above. elim (split l r) [
    | inl p ↦ second.row_stays l (first.row_comes l p above)
    | inr q ↦ second.row_comes l q above
  ];
  row_only = λ l has. elim (second.row_only l has) [
    | inl before ↦ elim (first.row_only l before) [
      | inl older ↦ inl older
      | inr made ↦ inr (left l made.0, made.1)
    ]
    | inr made ↦ inr (right l made.0, made.1)
  ];
}

pub added_same : (x y : Below) (P Q : Link → Type 0) → ((l : Link) → P l → Q l) → ((l : Link) → Q l → P l) → AreAdded x y P → AreAdded x y Q
added_same x y P Q there back added = record {
  blocks_stay = added.blocks_stay;
  blocks_come = λ l q. added.blocks_come l (back l q);
  blocks_only = λ b has. elim (added.blocks_only b has) [
    | inl before ↦ inl before
    | inr made ↦ inr (made.0, there made.0 made.1, made.2)
  ];
  row_stays = added.row_stays;
  row_comes = λ l q above. added.row_comes l (back l q) above;
  row_only = λ l has. elim (added.row_only l has) [
    | inl before ↦ inl before
    | inr made ↦ inr (there l made.0, made.1)
  ];
}

-- one after another
abbrev pub Upto : (ℕ → Link → Type 0) → ℕ → Link → Type 0
Upto P n l = (k : ℕ) × (k < n) × P k l

pub upto_none : (x : Below) (P : ℕ → Link → Type 0) → AreAdded x x (Upto P 0)
upto_none x P = added_none x (Upto P 0) (λ l p. absurd (omega (arith, p.1)))

pub upto_more : (x y z : Below) (P : ℕ → Link → Type 0) (n : ℕ) → AreAdded x y (Upto P n) → AreAdded y z (P n) → AreAdded x z (Upto P (n + 1))
upto_more x y z P n first second = added_both x y z (Upto P n) (P n) (Upto P (n + 1)) first second
    (λ l p. (p.0, omega (arith, p.1), p.2)) (λ l p. (n, omega arith, p)) split
  where
    split : (l : Link) → Upto P (n + 1) l → Upto P n l ⊎ P n l
    split l p = elim (cases_lt p.0 n) [
      | inl low ↦ inl (p.0, low, p.2)
      | inr high ↦ let last : p.0 ≡ n = omega (arith, high, p.1) in inr (subst (λ k. P k l) last p.2)
    ]

-- ---- one link

pub pointed_past : (h : Holding) (inode : Inode) (fault : CallFault) (from k level first b : ℕ) → IsOf h inode → fault ≡ Damaged inode.block 8 → Leads h from k level first b
    → content_count (held inode) ≤ first → IsDamage (IsBroken h) fault
pointed_past h inode fault from k level first b o is leads past =
    told_own h fault inode.block 8 is o.own (past_end from k level first b leads (omega (arith, past, count_same h inode o)))

-- what the holding has in a block to which a link leads is what the view has
pub led_bytes : (v : Seen) (h : Holding) (a : ℕ) (link : Link) (bytes : List ℕ) → IsShown v a h → IsLed h link → v.block_at link.block ≡ Some bytes → bytes_at h link.block ≡ bytes
led_bytes v h a link bytes shown led has = shown.same link.block bytes (shown.led_to _ _ _ _ _ led.1) has

one_up : (h : Holding) (link : Link) (led : IsLed h link) → 1 ≤ link.way.level → Leads h link.way.from led.0 (suc (link.way.level - 1)) link.way.index link.block
one_up h link led above =
    let up : link.way.level ≡ suc (link.way.level - 1) = omega (arith, above) in
    subst (λ l. Leads h link.way.from led.0 l link.way.index link.block) up led.1

pub lacks_led : (v : Seen) (h : Holding) (a : ℕ) (link : Link) (bytes : List ℕ) (fault : CallFault) → IsShown v a h → IsLed h link → 1 ≤ link.way.level
    → v.block_at link.block ≡ Some bytes → fault ≡ Damaged link.block 1 → ¬ (HasHeader 5 500 bytes) → IsDamage (IsBroken h) fault
lacks_led v h a link bytes fault shown led above has at lacks =
    told h fault link.block 1 at (no_header link.block 5 500 (of_indirect _ _ _ _ _ (one_up h link led above))
    (λ header. lacks (subst (HasHeader 5 500) (led_bytes v h a link bytes shown led has) header)))

pub needed_led : (v : Seen) (h : Holding) (inode : Inode) (link : Link) (m : Missing) → IsShown v inode.block h → IsIn v inode → IsLed h link → 1 ≤ link.way.level
    → v.block_at link.block ≡ None
    → m ≡ record { lock = inode_lock inode.block; block = link.block; plain = link.way.level == 0 && is_regular inode.dinode; from = link.way.from }
    → IsNeeded v h AnyIndex 1 m
needed_led v h inode link m shown seen led above absent at =
    let o = shown_of v h inode shown seen in
    let some : 1 ≤ span h.size link.way.level = span_some h.size link.way.level (omega (arith, o.size, inode.least)) in
    subst (IsNeeded v h AnyIndex 1) (sym at) (record {
      lock = ap inode_lock (sym shown.own);
      absent = absent;
      way = led_to link.way.index led.0 link.way.level link.way.index tt above led.1 (omega arith) (omega (arith, some))
          (ap (λ d. link.way.level == 0 && is_regular d) (sym (dinode_is h inode o)));
    })

-- the pointers of the indirect block to which a link leads
pub leads_under : (v : Seen) (h : Holding) (a : ℕ) (link : Link) (bytes : List ℕ) (k : ℕ) → IsShown v a h → IsLed h link → 1 ≤ link.way.level → v.block_at link.block ≡ Some bytes
    → length bytes ≡ h.size → k < fan (length bytes) header_length → u64_at (header_length + 8 * k) bytes ≢ 0
    → Leads h link.block k (link.way.level - 1) (link.way.index + k * span h.size (link.way.level - 1)) (u64_at (header_length + 8 * k) bytes)
leads_under v h a link bytes k shown led above has size low some =
    let same : pointer h header_length link.block k ≡ u64_at (header_length + 8 * k) bytes = ap (u64_at (header_length + 8 * k)) (led_bytes v h a link bytes shown led has) in
    subst (Leads h link.block k (link.way.level - 1) (link.way.index + k * span h.size (link.way.level - 1))) same
    (from_block link.way.from led.0 (link.way.level - 1) link.way.index link.block k (one_up h link led above) (subst (λ n. k < fan n header_length) size low) (λ e. some (sym same ∙ e)))

pub leads_top : (h : Holding) (inode : Inode) (level k : ℕ) → IsOf h inode → height_in h ≡ suc level → k < fan (length inode.bytes.now) dinode_length → u64_at (dinode_length + 8 * k) inode.bytes.now ≢ 0
    → Leads h inode.block k level (0 + k * span h.size level) (u64_at (dinode_length + 8 * k) inode.bytes.now)
leads_top h inode level k o high low some =
    let same : pointer h dinode_length h.own k ≡ u64_at (dinode_length + 8 * k) inode.bytes.now = ap (u64_at (dinode_length + 8 * k)) o.bytes in
    subst (λ f. Leads h inode.block k level f (u64_at (dinode_length + 8 * k) inode.bytes.now)) (sym (zero-add (k * span h.size level)))
    (subst (Leads h inode.block k level (k * span h.size level)) same
    (subst (λ b. Leads h b k level (k * span h.size level) (pointer h dinode_length h.own k)) o.own
    (from_dinode k level high (subst (λ n. k < fan n dinode_length) (sym o.size) low) (λ e. some (sym same ∙ e)))))

-- ---- where a block is led to from

pub leads_low : (h : Holding) (from k level first b : ℕ) → Leads h from k level first b → level < height_in h
leads_low h _ _ _ _ _ (from_dinode k level high low some) = omega (arith, high)
leads_low h _ _ _ _ _ (from_block b k level first c j leads low some) = omega (arith, leads_low h b k (suc level) first c leads)

-- by an indirect block one level further up
pub record IsFromBlock (h : Holding) (from k level first b : ℕ) : Type 0 where
  pub over : ℕ
  pub place : ℕ
  pub begin : ℕ
  pub leads : Leads h over place (suc level) begin from
  pub low : k < fan h.size header_length
  pub some : pointer h header_length from k ≢ 0
  pub first_is : first ≡ begin + k * span h.size level
  pub block_is : b ≡ pointer h header_length from k

pub from_above : (h : Holding) (from k level first b : ℕ) → Leads h from k level first b → suc level < height_in h → IsFromBlock h from k level first b
from_above h _ _ _ _ _ (from_dinode k level high low some) more = absurd (omega (arith, high, more))
from_above h _ _ _ _ _ (from_block b k level first c j leads low some) more =
    record { over = b; place = k; begin = first; leads = leads; low = low; some = some; first_is = refl; block_is = refl }

pub record IsFromDinode (h : Holding) (from k level first b : ℕ) : Type 0 where
  pub own : from ≡ h.own
  pub low : k < fan h.size dinode_length
  pub some : pointer h dinode_length h.own k ≢ 0
  pub first_is : first ≡ k * span h.size level
  pub block_is : b ≡ pointer h dinode_length h.own k

pub from_top : (h : Holding) (from k level first b : ℕ) → Leads h from k level first b → height_in h ≡ suc level → IsFromDinode h from k level first b
from_top h _ _ _ _ _ (from_dinode k level high low some) top = record { own = refl; low = low; some = some; first_is = refl; block_is = refl }
from_top h _ _ _ _ _ (from_block b k level first c j leads low some) top = absurd (omega (arith, top, leads_low h b k (suc level) first c leads))

-- the link of a pointer is the inode's where the pointer leads
pub led_of : (h : Holding) (bytes : List ℕ) (start : ℕ) (way : Way) (k : ℕ) (l : Link) → IsPointing bytes start way k l → length bytes ≡ h.size
    → Leads h way.from k way.level (way.index + k * span h.size way.level) (u64_at (start + 8 * k) bytes) → IsLed h l
led_of h bytes start way k l p size leads = subst (IsLed h) (sym p.is)
    (k, subst (λ n. Leads h way.from k way.level (way.index + k * span n way.level) (u64_at (start + 8 * k) bytes)) (sym size) leads)

from_of : (h : Holding) (l : Link) → IsLed h l → IsLedFrom h l.way.from l.block
from_of h l led = (led.0, l.way.level, l.way.index, led.1)

link_is : (from from' level first first' b b' : ℕ) → from ≡ from' → first ≡ first' → b ≡ b'
    → ◌≡◌ {A = Link} (record { way = record { from = from; level = level; index = first; left = 0 }; block = b }) (record { way = record { from = from'; level = level; index = first'; left = 0 }; block = b' })
link_is from from' level first first' b b' e f d = λ j. record { way = record { from = e j; level = level; index = f j; left = 0 }; block = d j }

pub none_in : {X : Type 0} (xs : List X) (x : X) → xs ≡ [] → Contains xs x → ⊥
none_in xs x none has = omega (arith, has.1, ap length none)

-- ---- one link, and one row

pub added_one : (x y : Below) (link : Link) (bytes : List ℕ) (start : ℕ) (way : Way) (k : ℕ) → IsPointing bytes start way k link → AreAdded x y (λ l. l ≡ link) → AreAdded x y (IsPointing bytes start way k)
added_one x y link bytes start way k is =
    added_same x y (λ l. l ≡ link) (IsPointing bytes start way k) (λ l e. subst (IsPointing bytes start way k) (sym e) is) (λ l p. p.is ∙ sym is.is)

pub added_zero : (x : Below) (bytes : List ℕ) (start : ℕ) (way : Way) (k : ℕ) → u64_at (start + 8 * k) bytes ≡ 0 → AreAdded x x (IsPointing bytes start way k)
added_zero x bytes start way k none = added_none x (IsPointing bytes start way k) (λ l p. p.some none)

pub under_bytes : (v : Seen) (x y : Below) (over : Link) (bytes : List ℕ) → v.block_at over.block ≡ Some bytes
    → AreAdded x y (λ l. (k : ℕ) × (k < fan (length bytes) header_length) × IsPointing bytes header_length (way_below over) k l) → AreAdded x y (IsUnder v over)
under_bytes v x y over bytes at = added_same x y (λ l. (k : ℕ) × (k < fan (length bytes) header_length) × IsPointing bytes header_length (way_below over) k l) (IsUnder v over) (λ l p. (bytes, at, p))
    (λ l under.
    let same : under.0 ≡ bytes = one under.0 bytes (sym under.1 ∙ at) in
    subst (λ bs. (k : ℕ) × (k < fan (length bs) header_length) × IsPointing bs header_length (way_below over) k l) same under.2)
  where
    one : (a b : List ℕ) → Some a ≡ Some b → a ≡ b
    one a b e = cc

-- below the link at a place of a row
abbrev pub UnderAt : Seen → List Link → ℕ → Link → Type 0
UnderAt v row j l = (over : Link) × (get_or row j over ≡ over) × IsUnder v over l

pub item_in : (row : List Link) (n : ℕ) (e : Link) → n < length row → Contains row (get_or row n e)
item_in row n e low = (n, low, get_or_default row n (get_or row n e) e low)

pub under_at : (v : Seen) (x y : Below) (row : List Link) (n : ℕ) (e : Link) → n < length row → AreAdded x y (IsUnder v (get_or row n e)) → AreAdded x y (UnderAt v row n)
under_at v x y row n e low = added_same x y (IsUnder v (get_or row n e)) (UnderAt v row n) (λ l under. (get_or row n e, get_or_default row n (get_or row n e) e low, under))
    (λ l at. subst (λ over. IsUnder v over l) (sym at.1 ∙ get_or_default row n at.0 e low) at.2)

pub under_row : (v : Seen) (x y : Below) (row : List Link) (n : ℕ) → n ≡ length row → AreAdded x y (Upto (UnderAt v row) n) → AreAdded x y (IsUnderRow v row)
under_row v x y row n all = added_same x y (Upto (UnderAt v row) n) (IsUnderRow v row)
    (λ l at. (at.2.0, (at.0, omega (arith, at.1, all), at.2.1), at.2.2))
    (λ l under. (under.1.0, omega (arith, under.1.1, all), (under.0, under.1.2, under.2)))

pub there_more : (v : Seen) (row : List Link) (n : ℕ) (e : Link) → n < length row → HasBlock v (get_or row n e).block → ((j : ℕ) (over : Link) → j < n → get_or row j over ≡ over → HasBlock v over.block)
    → (j : ℕ) (over : Link) → j < n + 1 → get_or row j over ≡ over → HasBlock v over.block
there_more v row n e low here before j over within is = elim (cases_lt j n) [
  | inl early ↦ before j over early is
  | inr late ↦
      let last : j ≡ n = omega (arith, late, within) in
      subst (λ (m : Link). HasBlock v m.block) (get_or_default row n e over low ∙ ap (λ i. get_or row i over) (sym last) ∙ is) here
]

-- what a row gets that begins empty
pub row_above : (x y : Below) (P : Link → Type 0) → x.row.items ≡ [] → AreAdded x y P → (l : Link) → Contains y.row.items l → 1 ≤ l.way.level
row_above x y P none added l has = elim (added.row_only l has) [
  | inl before ↦ absurd (none_in x.row.items l none before)
  | inr made ↦ made.1
]

-- ---- the rows

-- the first row: where the dinode's pointers lead
module _ (h : Holding) (inode : Inode) (top : ℕ) (o : IsOf h inode) (high : height_in h ≡ suc top) where
  abbrev first_way : Way
  first_way = record { from = inode.block; level = top; index = 0; left = 0 }

  abbrev IsTop : Link → Type 0
  IsTop l = (k : ℕ) × (k < fan (length inode.bytes.now) dinode_length) × IsPointing inode.bytes.now dinode_length first_way k l

  top_led : (l : Link) → IsTop l → IsLed h l
  top_led l p = led_of h inode.bytes.now dinode_length first_way p.0 l p.2 (sym o.size) (leads_top h inode top p.0 o high p.1 p.2.some)

  top_all : (from k first b : ℕ) → Leads h from k top first b → IsTop (record { way = record { from = from; level = top; index = first; left = 0 }; block = b })
  top_all from k first b leads =
      let is = from_top h from k top first b leads high in
      let same : pointer h dinode_length h.own k ≡ u64_at (dinode_length + 8 * k) inode.bytes.now = ap (u64_at (dinode_length + 8 * k)) o.bytes in (
        k,
        subst (λ n. k < fan n dinode_length) o.size is.low,
        record {
          some = λ e. is.some (same ∙ e);
          is = link_is from inode.block top first (0 + k * span (length inode.bytes.now) top) b (u64_at (dinode_length + 8 * k) inode.bytes.now) (is.own ∙ o.own)
              (is.first_is ∙ ap (λ n. k * span n top) o.size ∙ sym (zero-add (k * span (length inode.bytes.now) top))) (is.block_is ∙ same);
        },
      )

  pub rows_first : (x y : Below) → x.found.items ≡ [] → x.row.items ≡ [] → AreAdded x y IsTop → HasRows h top y
  rows_first x y no_blocks no_row added = record {
    only = λ p has. elim (added.blocks_only p has) [
      | inl before ↦ absurd (none_in x.found.items p no_blocks before)
      | inr made ↦ subst (λ (q : PointedBlock). IsLedFrom h q.from q.block) (sym made.2) (from_of h made.0 (top_led made.0 made.1))
    ];
    all = λ from k at first b above leads.
        let same : at ≡ top = omega (arith, above, high, leads_low h from k at first b leads) in (
          record { block = b; from = from },
          added.blocks_come (record { way = record { from = from; level = top; index = first; left = 0 }; block = b }) (top_all from k first b (subst (λ l. Leads h from k l first b) same leads)),
          refl,
        );
    led = λ l has. elim (added.row_only l has) [
      | inl before ↦ absurd (none_in x.row.items l no_row before)
      | inr made ↦
          let level : l.way.level ≡ top = ap (λ (m : Link). m.way.level) made.0.2.is in
          (top_led l made.0, level, omega (arith, made.1, level))
    ];
    row = λ from k first b above leads.
        let link : Link = record { way = record { from = from; level = top; index = first; left = 0 }; block = b } in
        (link, added.row_comes link (top_all from k first b leads) above, refl);
  }

-- the row below links that lead to each block of a row
module _ (v : Seen) (h : Holding) (a level : ℕ) (old : Below) (kept : List Link) (shown : IsShown v a h) (view : IsView v) (some : 1 ≤ level) (low : level < height_in h) (rows : HasRows h level old)
    (only : (l : Link) → Contains kept l → Contains old.row.items l) (each : (l : Link) → Contains old.row.items l → (m : Link) × Contains kept m × (m.block ≡ l.block))
    (there : (l : Link) → Contains kept l → HasBlock v l.block) where
  abbrev IsNext : Link → Type 0
  IsNext l = IsUnderRow v kept l

  long : (b : ℕ) (bytes : List ℕ) → v.block_at b ≡ Some bytes → length bytes ≡ h.size
  long b bytes has = view.whole b bytes has ∙ sym shown.size

  up : suc (level - 1) ≡ level
  up = omega (arith, some)

  kept_led : (over : Link) → Contains kept over → IsLed h over × (over.way.level ≡ level)
  kept_led over has = let led = rows.led over (only over has) in (led.0, led.1)

  over_above : (over : Link) → Contains kept over → 1 ≤ over.way.level
  over_above over has = omega (arith, (kept_led over has).1, some)

  next_led : (l : Link) → IsNext l → IsLed h l
  next_led l (over, has, (bytes, at, (k, near, p))) =
      led_of h bytes header_length (way_below over) k l p (long over.block bytes at)
      (leads_under v h a over bytes k shown (kept_led over has).0 (over_above over has) at (long over.block bytes at) near p.some)

  next_level : (l : Link) → IsNext l → l.way.level ≡ level - 1
  next_level l (over, has, (bytes, at, (k, near, p))) = ap (λ (m : Link). m.way.level) p.is ∙ ap (λ n. n - 1) (kept_led over has).1

  next_of : (link over : Link) (bytes : List ℕ) (from k b : ℕ) → Contains kept over → over.block ≡ link.block → link.block ≡ from → v.block_at over.block ≡ Some bytes → k < fan h.size header_length
      → pointer h header_length from k ≢ 0 → b ≡ pointer h header_length from k → (l : Link) × IsNext l × (l.block ≡ b)
  next_of link over bytes from k b has meets at seen near led is =
      let same : pointer h header_length from k ≡ u64_at (header_length + 8 * k) bytes =
      ap (λ x. pointer h header_length x k) (sym (meets ∙ at)) ∙ ap (u64_at (header_length + 8 * k)) (led_bytes v h a over bytes shown (kept_led over has).0 seen) in (
        record { way = record (way_below over) { index = over.way.index + k * span (length bytes) (over.way.level - 1) }; block = u64_at (header_length + 8 * k) bytes },
        (over, has, (bytes, seen, (k, subst (λ n. k < fan n header_length) (sym (long over.block bytes seen)) near, record { some = λ e. led (same ∙ e); is = refl }))),
        sym (is ∙ same),
      )

  next_all : (from k first b : ℕ) → Leads h from k (level - 1) first b → (l : Link) × IsNext l × (l.block ≡ b)
  next_all from k first b leads =
      let is = from_above h from k (level - 1) first b leads (omega (arith, low, some)) in
      let above : Leads h is.over is.place level is.begin from = subst (λ l. Leads h is.over is.place l is.begin from) up is.leads in
      let found = rows.row is.over is.place is.begin from some above in
      let over = each found.0 found.1 in
      let seen : HasBlock v over.0.block = there over.0 over.1 in
      next_of found.0 over.0 seen.0 from k b over.1 over.2 found.2 seen.1 is.low is.some is.block_is

  pub rows_next : (x y : Below) → x.found.items ≡ old.found.items → x.row.items ≡ [] → AreAdded x y IsNext → HasRows h (level - 1) y
  rows_next x y same_blocks no_row added = record {
    only = λ p has. elim (added.blocks_only p has) [
      | inl before ↦ rows.only p (subst (λ xs. Contains xs p) same_blocks before)
      | inr made ↦ subst (λ (q : PointedBlock). IsLedFrom h q.from q.block) (sym made.2) (from_of h made.0 (next_led made.0 made.1))
    ];
    all = λ from k at first b above leads. elim (cases_lt at level) [
      | inl below ↦
          let same : at ≡ level - 1 = omega (arith, above, below) in
          let next = next_all from k first b (subst (λ l. Leads h from k l first b) same leads) in
          (pointed_by next.0, added.blocks_come next.0 next.1, next.2)
      | inr higher ↦
          let found = rows.all from k at first b higher leads in
          (found.0, added.blocks_stay found.0 (subst (λ xs. Contains xs found.0) (sym same_blocks) found.1), found.2)
    ];
    led = λ l has. elim (added.row_only l has) [
      | inl before ↦ absurd (none_in x.row.items l no_row before)
      | inr made ↦ (next_led l made.0, next_level l made.0, omega (arith, made.1, next_level l made.0))
    ];
    row = λ from k first b above leads.
        let next = next_all from k first b leads in
        (next.0, added.row_comes next.0 next.1 (omega (arith, above, next_level next.0 next.1)), next.2);
  }

-- ---- the blocks that are had then

pub rows_done : (h : Holding) (y : Below) → HasRows h 0 y → (b : ℕ) → IsBelow h b → TellsOfBlock y.found.items b
rows_done h y rows b (from, k, at, first, leads) = rows.all from k at first b (omega arith) leads

pub none_below : (h : Holding) (blocks : List PointedBlock) → height_in h ≡ 0 → (b : ℕ) → IsBelow h b → TellsOfBlock blocks b
none_below h blocks low b (from, k, at, first, leads) = absurd (omega (arith, low, leads_low h from k at first b leads))

-- each pointer stands in a block that the view has: the dinode's, or an indirect block that was gone over
abbrev pub AreSeen : Seen → List PointedBlock → Type 0
AreSeen v blocks = (p : PointedBlock) → Contains blocks p → HasBlock v p.from

pub none_seen : (v : Seen) (blocks : List PointedBlock) → blocks ≡ [] → AreSeen v blocks
none_seen v blocks none p has = absurd (none_in blocks p none has)

pub seen_first : (v : Seen) (x y : Below) (bytes : List ℕ) (start : ℕ) (way : Way) → x.found.items ≡ [] → HasBlock v way.from
    → AreAdded x y (λ l. (k : ℕ) × (k < fan (length bytes) start) × IsPointing bytes start way k l) → AreSeen v y.found.items
seen_first v x y bytes start way none here added p has = elim (added.blocks_only p has) [
  | inl before ↦ absurd (none_in x.found.items p none before)
  | inr made ↦
      let from : p.from ≡ way.from = ap (λ (q : PointedBlock). q.from) made.2 ∙ ap (λ (l : Link). l.way.from) made.1.2.is in
      subst (HasBlock v) (sym from) here
]

pub seen_next : (v : Seen) (x y : Below) (kept : List Link) → AreSeen v x.found.items → AreAdded x y (IsUnderRow v kept) → AreSeen v y.found.items
seen_next v x y kept before added p has = elim (added.blocks_only p has) [
  | inl older ↦ before p older
  | inr made ↦
      let under = made.1.2 in
      let from : p.from ≡ made.1.0.block = ap (λ (q : PointedBlock). q.from) made.2 ∙ ap (λ (l : Link). l.way.from) under.2.2.is in
      subst (HasBlock v) (sym from) (under.0, under.1)
]
