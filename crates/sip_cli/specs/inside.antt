pub mod HelpEnds
