-- Flight line seven (docs/RULES.md, "Flight line seven"): the document, the patterns, and the table of cases 1 to 11, with the slip of a cut at the first
-- label. Labels: 1 line, 2 strip, 3 frame, 4 pose, 5 control. Assumes nothing.
use Rattle.std.specs.Prelude.{List, [], ◌∷◌}
use Rattle.tables.specs.Document.{Document, document_of}
use Rattle.tables.specs.declared.Pattern.{Pattern}
use Rattle.flightline.specs.Fact.{pattern, Fact, answers, packet, working, contained, apart, equal, handed, started, nothing}

-- the flight line
unfoldable pub line : Document
line = document_of (65535 ∷ 0 ∷ 1 ∷ 1 ∷ 3 ∷ 0 ∷ 5 ∷ []) (1 ∷ 2 ∷ 5 ∷ 3 ∷ 4 ∷ 2 ∷ 3 ∷ [])

-- //strip//frame
unfoldable pub view : Pattern
view = pattern (255 ∷ 0 ∷ []) (1 ∷ 1 ∷ []) (2 ∷ 3 ∷ []) 1

-- //strip//frame[pose]
unfoldable pub posed : Pattern
posed = pattern (255 ∷ 0 ∷ 1 ∷ []) (1 ∷ 1 ∷ 0 ∷ []) (2 ∷ 3 ∷ 4 ∷ []) 1

-- //strip[control]//frame
unfoldable pub controlled : Pattern
controlled = pattern (255 ∷ 0 ∷ 0 ∷ []) (1 ∷ 0 ∷ 1 ∷ []) (2 ∷ 5 ∷ 3 ∷ []) 2

-- /strip; as a compensation, strip
unfoldable pub top_strip : Pattern
top_strip = pattern (255 ∷ []) (0 ∷ []) (2 ∷ []) 0

-- //strip//strip
unfoldable pub nested_strips : Pattern
nested_strips = pattern (255 ∷ 0 ∷ []) (1 ∷ 1 ∷ []) (2 ∷ 2 ∷ []) 1

-- frame[pose]
unfoldable pub frame_posed : Pattern
frame_posed = pattern (255 ∷ 0 ∷ []) (0 ∷ 0 ∷ []) (3 ∷ 4 ∷ []) 0

-- /line[.//pose]/strip/frame/pose
unfoldable pub line_poses : Pattern
line_poses = pattern (255 ∷ 0 ∷ 0 ∷ 2 ∷ 3 ∷ []) (0 ∷ 1 ∷ 0 ∷ 0 ∷ 0 ∷ []) (1 ∷ 4 ∷ 2 ∷ 3 ∷ 4 ∷ []) 4

-- /line/strip
unfoldable pub line_strips : Pattern
line_strips = pattern (255 ∷ 0 ∷ []) (0 ∷ 0 ∷ []) (1 ∷ 2 ∷ []) 1

-- strip/frame/pose
unfoldable pub strip_poses : Pattern
strip_poses = pattern (255 ∷ 0 ∷ 1 ∷ []) (0 ∷ 0 ∷ 0 ∷ []) (2 ∷ 3 ∷ 4 ∷ []) 2

-- /strip[frame][frame]
unfoldable pub two_frames : Pattern
two_frames = pattern (255 ∷ 0 ∷ 0 ∷ []) (0 ∷ 0 ∷ 0 ∷ []) (2 ∷ 3 ∷ 3 ∷ []) 0

-- /strip[frame]
unfoldable pub one_frame : Pattern
one_frame = pattern (255 ∷ 0 ∷ []) (0 ∷ 0 ∷ []) (2 ∷ 3 ∷ []) 0

-- the witness of //strip//frame against //strip[control]//frame
unfoldable pub view_witness : Document
view_witness = document_of (65535 ∷ 0 ∷ 1 ∷ 2 ∷ []) (1 ∷ 2 ∷ 1 ∷ 3 ∷ [])

-- cases 1 to 5: answers
unfoldable pub answer_cases : List Fact
answer_cases =
    -- 1
    answers view (3 ∷ 6 ∷ []) ∷ packet view (1 ∷ 0 ∷ 9 ∷ 1 ∷ 255 ∷ 1 ∷ 0 ∷ 2 ∷ 0 ∷ 1 ∷ 0 ∷ 3 ∷ [])
    -- 2
    ∷ working view (0 ∷ 0 ∷ 1 ∷ 1 ∷ 0 ∷ 0 ∷ 2 ∷ 2 ∷ 0 ∷ 0 ∷ 1 ∷ 1 ∷ 2 ∷ 2 ∷ [])
    -- 3
    ∷ answers posed (3 ∷ [])
    -- 4
    ∷ answers controlled (3 ∷ [])
    -- 5
    ∷ answers top_strip [] ∷ answers nested_strips [] ∷ []

-- cases 6, 7 and 11: containment
unfoldable pub containment_cases : List Fact
containment_cases =
    -- 6
    contained controlled view (0 ∷ 2 ∷ [])
    -- 7
    ∷ apart view controlled 1 view_witness 3
    -- 11
    ∷ equal two_frames one_frame ∷ []

-- cases 8 to 10, and one more: rewriting
unfoldable pub rewriting_cases : List Fact
rewriting_cases =
    -- 8
    handed posed view frame_posed ∷ started frame_posed (3 ∷ 6 ∷ []) (3 ∷ [])
    -- 9
    ∷ nothing controlled view
    -- 10
    ∷ handed line_poses line_strips strip_poses
    -- the cut of //strip//strip by itself is its second step
    ∷ handed nested_strips nested_strips top_strip ∷ []
