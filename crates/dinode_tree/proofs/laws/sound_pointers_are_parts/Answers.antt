use Rattle.dinode_tree.proofs.Sound.{parts_of_led, led_of_part}
use Rattle.dinode_tree.proofs.laws.sound_pointers_are_parts.Goals as goal

pub returns : goal.returns
returns c = record { parts = parts_of_led; led = led_of_part }
