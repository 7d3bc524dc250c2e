-- Cases 1 to 11 of flight line seven hold, in the terms of the definitions: the table is proved by computation. Assumes nothing.
use lib.Dec.{T}
use Rattle.tables.specs.{Column.{blocks, step_array}, Document.ValidDocument, Pattern.{table_of, pattern_of}}
use Rattle.tables.proofs.{TreeTests.{is_child, climbs, is_below, is_from, hangs_right}, Marks.mask, Rules.{is_label, is_right_step, is_pattern}}
use Rattle.tables.proofs.{Rules.{is_right_node, is_document, tells_document, same_pattern, same_document}, Tests.{every, some, same_list}}
use Rattle.packets.specs.PatternPacket.{step_bytes, pattern_packet, packet_shape}
use Rattle.placing.proofs.{Least.{first_from, pick, chosen, best}, Listing.passing, Probe.{can, can_send, whole_to, can_whole}, Sending.{label_fits, takes}}
use Rattle.answers.proofs.Tested.{begins, is_in, is_start_list, tested_answers, entries_of, tested_working}
use Rattle.containment.specs.Witness.{descendants, own_node_of, hook, parents_for, labels_for, witness_of}
use Rattle.containment.proofs.{Deciding.{maps_into, least_mapping}, FreshLabel.{stands_in, is_free, fresh_label}}
use Rattle.joining.specs.Join.{renumber, by_part, join_shape, join_of}
use Rattle.rewriting.specs.Candidate.{path_to, main_path, cut_step}
use Rattle.rewriting.proofs.{Cuts.{how_many, cut_shape}, Deciding.{candidate_of, has_candidate, join_equal, rewritable}}
use Rattle.flightline.specs.{Fact.{pattern, AllHold}, Table.{line, view, posed, controlled, top_strip, nested_strips, frame_posed, line_poses}}
use Rattle.flightline.specs.Table.{line_strips, strip_poses, two_frames, one_frame, view_witness, answer_cases, containment_cases, rewriting_cases}
use Rattle.flightline.proofs.Checking.{test, test_all, test_all_lem}

line_valid : ValidDocument line
unfolding line is_document is_right_node is_label hangs_right is_from is_below climbs is_child every
line_valid = (tells_document line).says tt

-- the three parts of the table pass
answers_pass : T (test_all line answer_cases)
unfolding answer_cases line view posed controlled top_strip nested_strips pattern pattern_of table_of blocks step_array test test_all is_pattern is_right_step
    is_label
    hangs_right is_from is_below climbs is_child every some same_list same_pattern step_bytes pattern_packet packet_shape first_from pick chosen best passing
    can can_send
    whole_to can_whole label_fits takes begins tested_answers entries_of tested_working mask
answers_pass = tt

containment_passes : T (test_all line containment_cases)
unfolding containment_cases line view controlled two_frames one_frame view_witness pattern pattern_of table_of blocks step_array test test_all is_pattern
    is_right_step
    is_label hangs_right is_from is_below climbs is_child every some same_list same_document first_from pick chosen best can can_send whole_to can_whole
    label_fits takes
    descendants own_node_of hook parents_for labels_for witness_of maps_into least_mapping stands_in is_free fresh_label
containment_passes = tt

rewriting_passes : T (test_all line rewriting_cases)
unfolding rewriting_cases line view posed controlled top_strip nested_strips frame_posed line_poses line_strips strip_poses pattern pattern_of table_of blocks
    step_array
    test test_all is_pattern is_right_step is_label hangs_right is_from is_below climbs is_child every some same_list same_pattern first_from pick chosen best
    passing can
    can_send whole_to can_whole label_fits takes is_in is_start_list tested_answers entries_of mask maps_into renumber by_part join_shape join_of path_to
    main_path cut_step how_many
    cut_shape candidate_of has_candidate join_equal rewritable
rewriting_passes = tt

-- the flight line obeys the rules, and the table holds
pub cases_hold : ValidDocument line × AllHold line answer_cases × AllHold line containment_cases × AllHold line rewriting_cases
cases_hold = (
  line_valid,
  test_all_lem line line_valid answer_cases answers_pass,
  test_all_lem line line_valid containment_cases containment_passes,
  test_all_lem line line_valid rewriting_cases rewriting_passes,
)
