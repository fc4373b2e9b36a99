-- What one node alone sees: it holds every lock exclusive.
use Rattle.std.specs.Prelude.{ℕ, List, refl}
use Rattle.std.specs.Ordering.{nat_cmp}
use Rattle.std.specs.Coded.{Coded, code_by, coded×, coded_ℕ, coded_list}
use Rattle.std.specs.FinMap.{FinMap, code, get}
use Rattle.glock_names.specs.Views.{Seen}
use Rattle.glock_names.specs.declared.State.TheVariants.{Ex}
use Rattle.glock_names.specs.declared.views.Group.{Group}

-- the blocks that it has, and what mounting told of the file system
pub record Lone : Type 0 where
  pub blocks : FinMap nat_cmp (List ℕ)
  pub groups : List Group
  pub root : ℕ
  pub size : ℕ

abbrev pub seen_alone : Lone → Seen
seen_alone n = record { size = n.size; root = n.root; groups = n.groups; state_of = λ lock. Ex; block_at = get n.blocks }

abbrev group_code : Coded Group
group_code = code_by (ℕ × (ℕ × (ℕ × ℕ))) (coded× coded_ℕ (coded× coded_ℕ (coded× coded_ℕ coded_ℕ))) (λ g. (g.addr, (g.length, (g.first, g.count))))
    (λ p. record { addr = p.0; length = p.1.0; first = p.1.1.0; count = p.1.1.1 }) (λ _. refl)

abbrev pub lone_code : Coded Lone
lone_code = code_by (FinMap nat_cmp (List ℕ) × (List Group × (ℕ × ℕ))) (coded× (code coded_ℕ (coded_list coded_ℕ)) (coded× (coded_list group_code) (coded× coded_ℕ coded_ℕ)))
    (λ n. (n.blocks, (n.groups, (n.root, n.size)))) (λ p. record { blocks = p.0; groups = p.1.0; root = p.1.1.0; size = p.1.1.1 }) (λ _. refl)
