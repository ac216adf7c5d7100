pub mod MadeText
