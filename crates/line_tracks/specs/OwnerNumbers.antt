-- Owners as numbers: a hart's own, 256 for none, and 257 for many.
use Rattle.std.specs.Prelude.{ℕ, ◌==◌, if◌then◌else◌}
use Rattle.sharing_rules.specs.declared.word.Owner.{Owner}
use Rattle.sharing_rules.specs.declared.word.Owner.TheVariants as owner

abbrev pub owner_of : ℕ → Owner
owner_of n = if n == 256 then owner.None else if n == 257 then owner.Many else owner.One n

abbrev pub owner_number : Owner → ℕ
owner_number owner.None = 256
owner_number (owner.One h) = h
owner_number owner.Many = 257
