-- Lists.
pub mod ListLaws
-- A text's defs, by its lexemes.
pub mod DefLaws
-- The contents of symbols.
pub mod ContentsLaws
-- Two walks side by side.
pub mod BesideLaws
-- The patterns of a text's defs.
pub mod BodiesLaws
-- The pass over definitions.
pub mod PassLaws
-- What is known of the tables before a def.
pub mod KnownLaws
-- One def of the pass.
pub mod HoldLaws
-- The pass from token to token.
pub mod OneLaws
