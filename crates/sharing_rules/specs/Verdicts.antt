-- The verdict over the words of a line since its start.
use Rattle.std.specs.Prelude.{Bool, true, false, not, ◌&&◌, ◌||◌, ◌==◌, nat_lt, if◌then◌else◌, List}
use Rattle.std.specs.List.{list_any, list_all}
use Rattle.sharing_rules.specs.declared.word.Word.{Word}
use Rattle.sharing_rules.specs.declared.word.Owner.{Owner}
use Rattle.sharing_rules.specs.declared.word.Owner.TheVariants as owner
use Rattle.sharing_rules.specs.declared.line_kind.Verdict.{Verdict}
use Rattle.sharing_rules.specs.declared.line_kind.Verdict.TheVariants.{FalseSharing, TrueSharing}
use Rattle.sharing_rules.specs.declared.line_kind.Verdict.TheVariants.{Mixed}

abbrev pub is_many : Owner → Bool
is_many owner.None = false
is_many (owner.One h) = false
is_many owner.Many = true

-- a word that at least two harts touched, and that was written
abbrev pub is_truly_shared : Word → Bool
is_truly_shared w = is_many w.owner && nat_lt 0 w.writes

-- false where no word is truly shared, true where every written word is, else mixed
abbrev pub verdict_of : List Word → Verdict
verdict_of ws =
    if not (list_any is_truly_shared ws) then FalseSharing
    else if list_all (λ w. is_truly_shared w || (w.writes == 0)) ws then TrueSharing else Mixed
