-- Laws of lists and of tests that the library does not have, each kind in a file of its own below, all named from here.
-- Assumes nothing.
pub mod Bool
pub mod Tests
pub mod Below
pub mod Places
pub mod ListAll
pub mod ListAny
pub mod AnyBelow
pub mod LowestBelow
pub mod Properties
pub mod Ends
pub mod Remainders
pub mod Tabulate
pub mod Overwritten
pub mod Filled
pub mod Filter
pub use Bool.{and_fst, and_snd, or_interchange, bool_ext, T_true}
pub use Tests.{by_same, by_less, left_suc}
pub use Below.{below, below_at}
pub use Places.{get_or_member, drop_cases}
pub use ListAll.{all_index, all_member, member_all, all_same, all_append, all_take_here, all_take_past}
pub use ListAny.{member_any, any_member, any_index, any_swap, any_same}
pub use AnyBelow.{any_below_number, number_any_below, any_below_none, any_below_more}
pub use LowestBelow.{FailsBelow, fails_below_none, fails_below_next, lowest_below_is, lowest_below_past, lowest_below_le}
pub use LowestBelow.{lowest_below_passes, lowest_below_fails, lowest_below_least, lowest_below_same}
pub use Properties.{All_append, All_left, All_right, All_part, All_mem, mem_All, All_get_or, Pairs_append, Pairs_part, Pairs_get_or}
pub use Ends.{none_left, none_right, one_more, snoc_other, snoc_nil, cons_in_snoc, snoc_in_cons}
pub use Remainders.{put_remainder}
pub use Tabulate.{length_tabulate, get_or_tabulate, whole_table, Tabling, tabling_none, tabling_more, tabling_done}
pub use Overwritten.{write_next, write_two, overwritten_length, overwritten_twice, get_or_overwritten, get_or_behind, get_or_insert_before}
pub use Filled.{Filling, fill_none, fill_size, fill_length, fill_same, fill_word, fill_part, fill_done}
pub use Filter.{filter_yes, filter_no, filter_short, all_filter, filter_none, filter_all}
pub use Filter.{filter_member, map_filter, any_fails, filter_fails, fails_filter, member_either}
