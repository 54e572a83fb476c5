-- The lines that an object's words lie in.
use Rattle.std.specs.Prelude.{ℕ, Bool, ◌==◌, All, IsTrue, filter, sum_by}
use Rattle.std.specs.List.{list_any}
use Rattle.base.specs.Lines.{line_number}
use Rattle.base.specs.Touch.{word_of}
use Rattle.sharing_rules.specs.AccessLists.{AccessList}
use Rattle.sharing_rules.specs.Lines.{native_grid}
use Rattle.layout_sweep.specs.Totals.{counted}
use Rattle.placement.specs.Words.{is_word_of, words_of}
use Rattle.placement.specs.declared.extent.Extent.{Extent}

-- whether a word of an object lies in line k of n bytes
abbrev pub is_object_line : ℕ → Extent → ℕ → Bool
is_object_line n e k = list_any (λ word. line_number n 0 word == k) (words_of e)

-- a list accesses nothing in these lines but the object's words
abbrev pub HasLinesToItself : ℕ → Extent → AccessList → Type 0
HasLinesToItself n e t = All (λ a.
    IsTrue (is_object_line n e (line_number n 0 a.addr)) → IsTrue (is_word_of e (word_of a.addr))) t

-- the counts of these lines, each from its first write on
abbrev pub object_total : ℕ → Extent → AccessList → ℕ
object_total n e t = sum_by (λ f. f.count)
    (filter (λ f. is_object_line n e f.line.number) (counted (native_grid n) t))
