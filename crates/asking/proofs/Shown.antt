-- Lines of `ask` byte by byte: with two answers, with none, and that of a refusal (docs/RULES.md, "The program ask"). Assumes nothing.
use Rattle.tables.proofs.Kit.{◌≡◌, refl, [], ◌∷◌}
use Rattle.tables.specs.Column.{blocks}
use Rattle.asking.specs.Text.{digits, decimal, spaced, view_word, document_word, line, refused_line}

-- `view 2: 3 6`
pub view_shown : line view_word (3 ∷ 6 ∷ []) ≡ 118 ∷ 105 ∷ 101 ∷ 119 ∷ 32 ∷ 50 ∷ 58 ∷ 32 ∷ 51 ∷ 32 ∷ 54 ∷ 10 ∷ []
unfolding line spaced decimal digits blocks
view_shown = refl

-- `view 0:`, with nothing after the colon
pub nothing_shown : line view_word [] ≡ 118 ∷ 105 ∷ 101 ∷ 119 ∷ 32 ∷ 48 ∷ 58 ∷ 10 ∷ []
unfolding line spaced decimal digits blocks
nothing_shown = refl

-- `refused 2 document`
pub refused_shown :
    refused_line 2 document_word
    ≡ 114 ∷ 101 ∷ 102 ∷ 117 ∷ 115 ∷ 101 ∷ 100 ∷ 32 ∷ 50 ∷ 32 ∷ 100 ∷ 111 ∷ 99 ∷ 117 ∷ 109 ∷ 101 ∷ 110 ∷ 116 ∷ 10 ∷ []
unfolding refused_line decimal digits
refused_shown = refl
