-- Definitions of the crate `table`: the map of keys and values; and in Inner, which only contracts of inner calls cite, how a table holds it and
-- where a key stands or would stand.
pub mod Map
pub mod Inner
