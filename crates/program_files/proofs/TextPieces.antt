-- The pieces of a text, one after another.
use Rattle.std.proofs.Common.{◌≡◌, ℕ, List, [], ◌∷◌, ◌++◌, codes, append_assoc}
use Rattle.std.specs.Fmt.{decimal}
use Rattle.program_files.specs.Summaries.{count_text, line}

pub range_pieces : (name first end : List ℕ) → name ++ (first ++ (codes " " ++ (end ++ codes "\n")))
    ≡ line
    (name ++ first ++ codes " " ++ end)
range_pieces name first end = simp append_assoc

one_line : (feed head gap base size read write run : List ℕ)
    → head ++ (base ++ (gap ++ (size ++ (gap ++ (read ++ (write ++ (run ++ feed))))))) ≡
    (head ++ base ++ gap ++ size ++ gap ++ (read ++ write ++ run)) ++ feed
one_line feed head gap base size read write run = simp append_assoc

pub segment_pieces : (base size read write run : List ℕ)
    → codes "segment " ++ (base
    ++ (codes " " ++ (size ++ (codes " " ++ (read ++ (write ++ (run ++ codes "\n")))))))
    ≡ line (codes "segment " ++ base ++ codes " " ++ size ++ codes " " ++ (read ++ write ++ run))
segment_pieces base size read write run = one_line (10 ∷ []) (codes "segment ") (codes " ") base
    size read write run

two_lines : (feed a b n m : List ℕ) → a ++ (n ++ ((feed ++ b) ++ (m ++ feed))) ≡ ((a ++ n) ++ feed)
    ++ ((b ++ m) ++ feed)
two_lines feed a b n m = simp append_assoc

pub count_pieces : (n m : ℕ)
    → codes "objects " ++ (decimal n ++ (codes "\nfunctions " ++ (decimal m ++ codes "\n")))
    ≡ count_text (codes "objects ") n ++ count_text
    (codes "functions ") m
count_pieces n m = two_lines (10 ∷ []) (codes "objects ") (codes "functions ") (decimal n)
    (decimal m)

all_lines : (feed e entry segments objects functions heap stacks end : List ℕ)
    → e ++ (entry ++ (feed
    ++ (segments ++ ((objects ++ functions) ++ (heap ++ (stacks ++ (end ++ feed)))))))
    ≡ ((e ++ entry) ++ feed) ++ segments ++ objects ++ functions ++ heap ++ stacks ++ (end ++ feed)
all_lines feed e entry segments objects functions heap stacks end = simp append_assoc

pub summary_pieces : (entry segments objects functions heap stacks : List ℕ)
    → codes "entry " ++ (entry
    ++ (codes "\n" ++ (segments
    ++ ((objects ++ functions) ++ (heap ++ (stacks ++ codes "end\n"))))))
    ≡ line (codes "entry " ++ entry) ++ segments ++ objects ++ functions ++ heap ++ stacks
    ++ line (codes "end")
summary_pieces entry segments objects functions heap stacks = all_lines (10 ∷ []) (codes "entry ")
    entry segments objects functions heap
    stacks (codes "end")
