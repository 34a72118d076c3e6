-- Calls that compute: what the definitions say of a job, worked out by the checker. Quoted texts stand for their bytes.
-- Assumes nothing.
use mathlib.Core.Bool.{Bool}
use mathlib.Core.List.{List, [], ◌∷◌}
use Prim.Native.Char.{code}
use Prim.Native.String as S
use Rattle.text.specs.Utf8 as Utf8
use Rattle.path.specs.Path as P
use Rattle.model.specs.Tree as Tree
use Rattle.model.specs.Prog as Prog
use Rattle.model.specs.Lookup as Lookup
use Rattle.model.specs.Operations as Operations
use Rattle.model.specs.Calls as Calls
use Rattle.model.specs.Fuller as Fuller

-- the bytes of a quoted ASCII text
abbrev pub bytes : S.String → Utf8.Bytes
bytes S.[] = []
bytes (S.◌∷◌ c s) = code c ∷ bytes s

-- what a call answers and leaves
unfoldable pub performed : Calls.Call → Calls.State → Calls.Outcome
unfolding Utf8.text Utf8.octets Utf8.char_length Utf8.starts P.same P.pieces P.vanishes P.is_up P.keep P.names P.norm P.normal P.is_absolute P.from P.absolute P.followed P.body P.render P.last_name P.all_short P.lengths_ok P.path_fits P.no_slash P.proper P.all_proper Tree.same_path Tree.look Tree.file_of Tree.open_of Tree.behind Tree.less Tree.put Tree.cut Tree.under Tree.graft Tree.change_meta Tree.change_bytes Tree.set_file Tree.new_id Tree.precedes Tree.insert Tree.in_order Tree.name_length Tree.target_length Tree.names_and_targets Tree.contents_length Tree.links_in Prog.node_kind Prog.stat_of Prog.bytes_of Prog.target_of Prog.children Prog.listing Prog.answer Prog.close_num Prog.seek_num Prog.apply Prog.◌>>=◌ Prog.◌>>◌ Prog.need Prog.run Lookup.arrived Lookup.onward Lookup.until_symlink Lookup.behind_link Lookup.ended Lookup.no_follow Lookup.reached Lookup.following Operations.must Operations.is_directory Operations.only_file Operations.only_dir Operations.is_dir Operations.fits Operations.to_absolute Operations.on_path Operations.on_paths Operations.leads Operations.directory Operations.parted Operations.last_entry Operations.on_given Operations.canonicalize_at Operations.set_current_dir_at Operations.umask_to Operations.make_if Operations.make_missing Operations.not_file Operations.create_dir_at Operations.open_walk Operations.parent_stands Operations.new_mode Operations.truncated Operations.start_at Operations.open_entry Operations.open_at Operations.source_at Operations.read_at Operations.write_entry Operations.write_to Operations.write_at Operations.copy_at Operations.hard_link_at Operations.not_dir Operations.link_at Operations.remove_at Operations.a_file_out Operations.a_dir_out Operations.a_tree_out Operations.same_sort Operations.emptied Operations.replaces Operations.take_then_make Operations.rename_apart Operations.rename_by Operations.rename_at Operations.metadata_at Operations.end_there Operations.symlink_metadata_at Operations.only_link Operations.read_link_at Operations.set_permissions_at Operations.on_raw Operations.set_times_at Operations.names_text Operations.stats_of Operations.list_at Operations.close_on Operations.read_part Operations.read_on Operations.from_end Operations.seek_from Operations.seek_on Operations.resized Operations.set_length_on Operations.set_mode_on Operations.set_times_on Operations.metadata_on Calls.is_named Calls.is_held Calls.kept_files Calls.given_to Calls.all Calls.number_fits Calls.screen Calls.program Calls.settle Calls.perform_with Calls.perform Calls.after_job Calls.results Fuller.shown_node Fuller.shown Fuller.position_of Fuller.share Fuller.misses Fuller.lacks_one Fuller.has_more Fuller.excepts_ask Fuller.excepts Fuller.for_space Fuller.excepted Fuller.quiet Fuller.result_after
performed = Calls.perform

-- what a job leaves
unfoldable pub left : List Calls.Call → Calls.State → Calls.State
unfolding Utf8.text Utf8.octets Utf8.char_length Utf8.starts P.same P.pieces P.vanishes P.is_up P.keep P.names P.norm P.normal P.is_absolute P.from P.absolute P.followed P.body P.render P.last_name P.all_short P.lengths_ok P.path_fits P.no_slash P.proper P.all_proper Tree.same_path Tree.look Tree.file_of Tree.open_of Tree.behind Tree.less Tree.put Tree.cut Tree.under Tree.graft Tree.change_meta Tree.change_bytes Tree.set_file Tree.new_id Tree.precedes Tree.insert Tree.in_order Tree.name_length Tree.target_length Tree.names_and_targets Tree.contents_length Tree.links_in Prog.node_kind Prog.stat_of Prog.bytes_of Prog.target_of Prog.children Prog.listing Prog.answer Prog.close_num Prog.seek_num Prog.apply Prog.◌>>=◌ Prog.◌>>◌ Prog.need Prog.run Lookup.arrived Lookup.onward Lookup.until_symlink Lookup.behind_link Lookup.ended Lookup.no_follow Lookup.reached Lookup.following Operations.must Operations.is_directory Operations.only_file Operations.only_dir Operations.is_dir Operations.fits Operations.to_absolute Operations.on_path Operations.on_paths Operations.leads Operations.directory Operations.parted Operations.last_entry Operations.on_given Operations.canonicalize_at Operations.set_current_dir_at Operations.umask_to Operations.make_if Operations.make_missing Operations.not_file Operations.create_dir_at Operations.open_walk Operations.parent_stands Operations.new_mode Operations.truncated Operations.start_at Operations.open_entry Operations.open_at Operations.source_at Operations.read_at Operations.write_entry Operations.write_to Operations.write_at Operations.copy_at Operations.hard_link_at Operations.not_dir Operations.link_at Operations.remove_at Operations.a_file_out Operations.a_dir_out Operations.a_tree_out Operations.same_sort Operations.emptied Operations.replaces Operations.take_then_make Operations.rename_apart Operations.rename_by Operations.rename_at Operations.metadata_at Operations.end_there Operations.symlink_metadata_at Operations.only_link Operations.read_link_at Operations.set_permissions_at Operations.on_raw Operations.set_times_at Operations.names_text Operations.stats_of Operations.list_at Operations.close_on Operations.read_part Operations.read_on Operations.from_end Operations.seek_from Operations.seek_on Operations.resized Operations.set_length_on Operations.set_mode_on Operations.set_times_on Operations.metadata_on Calls.is_named Calls.is_held Calls.kept_files Calls.given_to Calls.all Calls.number_fits Calls.screen Calls.program Calls.settle Calls.perform_with Calls.perform Calls.after_job Calls.results Fuller.shown_node Fuller.shown Fuller.position_of Fuller.share Fuller.misses Fuller.lacks_one Fuller.has_more Fuller.excepts_ask Fuller.excepts Fuller.for_space Fuller.excepted Fuller.quiet Fuller.result_after
left = Calls.after_job

-- what its calls answer
unfoldable pub answered : List Calls.Call → Calls.State → List Calls.Result
unfolding Utf8.text Utf8.octets Utf8.char_length Utf8.starts P.same P.pieces P.vanishes P.is_up P.keep P.names P.norm P.normal P.is_absolute P.from P.absolute P.followed P.body P.render P.last_name P.all_short P.lengths_ok P.path_fits P.no_slash P.proper P.all_proper Tree.same_path Tree.look Tree.file_of Tree.open_of Tree.behind Tree.less Tree.put Tree.cut Tree.under Tree.graft Tree.change_meta Tree.change_bytes Tree.set_file Tree.new_id Tree.precedes Tree.insert Tree.in_order Tree.name_length Tree.target_length Tree.names_and_targets Tree.contents_length Tree.links_in Prog.node_kind Prog.stat_of Prog.bytes_of Prog.target_of Prog.children Prog.listing Prog.answer Prog.close_num Prog.seek_num Prog.apply Prog.◌>>=◌ Prog.◌>>◌ Prog.need Prog.run Lookup.arrived Lookup.onward Lookup.until_symlink Lookup.behind_link Lookup.ended Lookup.no_follow Lookup.reached Lookup.following Operations.must Operations.is_directory Operations.only_file Operations.only_dir Operations.is_dir Operations.fits Operations.to_absolute Operations.on_path Operations.on_paths Operations.leads Operations.directory Operations.parted Operations.last_entry Operations.on_given Operations.canonicalize_at Operations.set_current_dir_at Operations.umask_to Operations.make_if Operations.make_missing Operations.not_file Operations.create_dir_at Operations.open_walk Operations.parent_stands Operations.new_mode Operations.truncated Operations.start_at Operations.open_entry Operations.open_at Operations.source_at Operations.read_at Operations.write_entry Operations.write_to Operations.write_at Operations.copy_at Operations.hard_link_at Operations.not_dir Operations.link_at Operations.remove_at Operations.a_file_out Operations.a_dir_out Operations.a_tree_out Operations.same_sort Operations.emptied Operations.replaces Operations.take_then_make Operations.rename_apart Operations.rename_by Operations.rename_at Operations.metadata_at Operations.end_there Operations.symlink_metadata_at Operations.only_link Operations.read_link_at Operations.set_permissions_at Operations.on_raw Operations.set_times_at Operations.names_text Operations.stats_of Operations.list_at Operations.close_on Operations.read_part Operations.read_on Operations.from_end Operations.seek_from Operations.seek_on Operations.resized Operations.set_length_on Operations.set_mode_on Operations.set_times_on Operations.metadata_on Calls.is_named Calls.is_held Calls.kept_files Calls.given_to Calls.all Calls.number_fits Calls.screen Calls.program Calls.settle Calls.perform_with Calls.perform Calls.after_job Calls.results Fuller.shown_node Fuller.shown Fuller.position_of Fuller.share Fuller.misses Fuller.lacks_one Fuller.has_more Fuller.excepts_ask Fuller.excepts Fuller.for_space Fuller.excepted Fuller.quiet Fuller.result_after
answered = Calls.results

-- whether no call of it is left out by demand 3
unfoldable pub is_quiet : List Calls.Call → Calls.State → Calls.State → Bool
unfolding Utf8.text Utf8.octets Utf8.char_length Utf8.starts P.same P.pieces P.vanishes P.is_up P.keep P.names P.norm P.normal P.is_absolute P.from P.absolute P.followed P.body P.render P.last_name P.all_short P.lengths_ok P.path_fits P.no_slash P.proper P.all_proper Tree.same_path Tree.look Tree.file_of Tree.open_of Tree.behind Tree.less Tree.put Tree.cut Tree.under Tree.graft Tree.change_meta Tree.change_bytes Tree.set_file Tree.new_id Tree.precedes Tree.insert Tree.in_order Tree.name_length Tree.target_length Tree.names_and_targets Tree.contents_length Tree.links_in Prog.node_kind Prog.stat_of Prog.bytes_of Prog.target_of Prog.children Prog.listing Prog.answer Prog.close_num Prog.seek_num Prog.apply Prog.◌>>=◌ Prog.◌>>◌ Prog.need Prog.run Lookup.arrived Lookup.onward Lookup.until_symlink Lookup.behind_link Lookup.ended Lookup.no_follow Lookup.reached Lookup.following Operations.must Operations.is_directory Operations.only_file Operations.only_dir Operations.is_dir Operations.fits Operations.to_absolute Operations.on_path Operations.on_paths Operations.leads Operations.directory Operations.parted Operations.last_entry Operations.on_given Operations.canonicalize_at Operations.set_current_dir_at Operations.umask_to Operations.make_if Operations.make_missing Operations.not_file Operations.create_dir_at Operations.open_walk Operations.parent_stands Operations.new_mode Operations.truncated Operations.start_at Operations.open_entry Operations.open_at Operations.source_at Operations.read_at Operations.write_entry Operations.write_to Operations.write_at Operations.copy_at Operations.hard_link_at Operations.not_dir Operations.link_at Operations.remove_at Operations.a_file_out Operations.a_dir_out Operations.a_tree_out Operations.same_sort Operations.emptied Operations.replaces Operations.take_then_make Operations.rename_apart Operations.rename_by Operations.rename_at Operations.metadata_at Operations.end_there Operations.symlink_metadata_at Operations.only_link Operations.read_link_at Operations.set_permissions_at Operations.on_raw Operations.set_times_at Operations.names_text Operations.stats_of Operations.list_at Operations.close_on Operations.read_part Operations.read_on Operations.from_end Operations.seek_from Operations.seek_on Operations.resized Operations.set_length_on Operations.set_mode_on Operations.set_times_on Operations.metadata_on Calls.is_named Calls.is_held Calls.kept_files Calls.given_to Calls.all Calls.number_fits Calls.screen Calls.program Calls.settle Calls.perform_with Calls.perform Calls.after_job Calls.results Fuller.shown_node Fuller.shown Fuller.position_of Fuller.share Fuller.misses Fuller.lacks_one Fuller.has_more Fuller.excepts_ask Fuller.excepts Fuller.for_space Fuller.excepted Fuller.quiet Fuller.result_after
is_quiet = Fuller.quiet

-- a call with working buffers of the least length
abbrev pub call : Calls.Op → Calls.Call
call o = record { work = record { first = 1024; second = 1024 }; op = o }

-- with other working buffers
abbrev pub call_with : Calls.Work → Calls.Op → Calls.Call
call_with k o = record { work = k; op = o }
